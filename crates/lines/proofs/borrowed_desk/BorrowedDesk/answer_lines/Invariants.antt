use Rattle.std.proofs.Common.{◌≡◌, ◌+◌, ◌≤◌, ◌++◌, length}
use Rattle.std.specs.String.{string_bytes}
use Rattle.taps.specs.Values.{book_of}
use Rattle.tokens.specs.Tokens.{lines_in}
use Rattle.session.specs.Session.{taps_held}
use Rattle.lines.specs.Borrowed.{IsSame}
use Rattle.lines.specs.Lines.{calls_in}
use Rattle.lines.proofs.Told.{Done, told_of}
use Rattle.lines.proofs.borrowed_desk.BorrowedDesk.answer_lines.Given as goal

-- what was told, and what is still to be told, are all
abbrev pub invariant-loop-line : goal.invariant-loop-line
invariant-loop-line l =
    let first = l.fn.self in
    let b = book_of first.book.now in
    record {
      same : IsSame first l.self;
      few : l.number + length l.rest ≤ length l.text;
      told : string_bytes l.told ++ told_of b first.limit (taps_held b first.limit l.self.left.now) l.number l.rest ≡ told_of b first.limit (taps_held b first.limit first.left.now) 0 l.text;
      done : Done b first.limit first.left.now first.right.now (calls_in 0 (lines_in l.text)) l.number l.rest l.self.left.now l.self.right.now;
    }

abbrev pub decreases-loop-line : goal.decreases-loop-line
decreases-loop-line l = length l.rest
