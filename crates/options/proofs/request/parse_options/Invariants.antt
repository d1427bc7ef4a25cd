use Rattle.std.proofs.Common.{◌≡◌, map, drop}
use Rattle.std.specs.String.{string_bytes}
use Rattle.options.specs.Options.{asked_in, read_words}
use Rattle.options.specs.Values.{draft_of}
use Rattle.options.proofs.request.parse_options.Given as goal

-- the words that are left, read on from here, ask for what all words do
abbrev pub invariant-loop-word : goal.invariant-loop-word
invariant-loop-word l = record {
  so_far : read_words l.takes_limit (draft_of l.draft) (map string_bytes (drop l.word-index l.words)) ≡ asked_in l.takes_limit (map string_bytes l.words);
}
