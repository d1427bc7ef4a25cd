use Rattle.std.proofs.Common.{◌≡◌, ◌≤◌, ◌++◌, length, take}
use Rattle.std.specs.Option.{option_map}
use Rattle.tokens.specs.Tokens.{tokens_in}
use Rattle.bookfile.specs.Books.{numbers_in}
use Rattle.bookfile.proofs.line.parse_tempi.Given as goal

-- the numbers so far, and those of the words that are left, are those of all words
abbrev pub invariant-loop-word : goal.invariant-loop-word
invariant-loop-word l = record {
  so_far : option_map (λ ns. take l.count l.all ++ ns) (numbers_in (tokens_in l.rest)) ≡ numbers_in (tokens_in l.fn.words);
  whole : length l.all ≡ 64;
  few : l.count ≤ 64;
}

abbrev pub decreases-loop-word : goal.decreases-loop-word
decreases-loop-word l = length l.rest
