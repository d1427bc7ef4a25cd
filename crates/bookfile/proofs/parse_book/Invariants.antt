use Rattle.std.proofs.Common.{◌≡◌, ◌+◌, ◌≤◌, length}
use Rattle.tokens.specs.Tokens.{lines_in}
use Rattle.bookfile.specs.Books.{book_in, read_lines}
use Rattle.bookfile.specs.Values.{draft_of}
use Rattle.bookfile.proofs.parse_book.Given as goal

-- the lines that are left, read on from here, give what all lines give
abbrev pub invariant-loop-line : goal.invariant-loop-line
invariant-loop-line l = record {
  so_far : read_lines (draft_of l.draft) l.number (lines_in l.rest) ≡ book_in l.fn.text;
  counted : l.number + length l.rest ≤ length l.fn.text;
}

abbrev pub decreases-loop-line : goal.decreases-loop-line
decreases-loop-line l = length l.rest
