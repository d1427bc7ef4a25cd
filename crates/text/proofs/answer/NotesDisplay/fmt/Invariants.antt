use Rattle.std.proofs.Common.{◌+◌, map, take}
use Rattle.std.specs.Fmt.{HasWritten, IsPlainFormatter}
use Rattle.taps.specs.Values.{book_of, read_of}
use Rattle.text.specs.Lines.{reading_text}
use Rattle.text.proofs.answer.NotesDisplay.fmt.Given as goal

-- the first note and as many of the others are written
abbrev pub invariant-loop-read : goal.invariant-loop-read
invariant-loop-read g l =
    IsPlainFormatter l.fn.f → HasWritten g.W.Write.write_str_gives l.fn.f (reading_text (book_of l.self.book.now) (map read_of (take (l.read-index + 1) l.self.reads.now))) l.f
