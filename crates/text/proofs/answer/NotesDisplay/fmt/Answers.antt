use Rattle.std.proofs.Common.{rules}
use Rattle.std.proofs.Output.{has_written_append, has_written_of_eq}
use Rattle.taps.specs.Values.{book_of}
use Rattle.text.proofs.Texts.{reading_more}
use Rattle.text.proofs.answer.NotesDisplay.fmt.Goals as goal

pub loop-read-preserved : goal.loop-read-preserved
loop-read-preserved g c =
    λ p. has_written_of_eq _ _ _ _ _ (reading_more (book_of c.args.self.now.book.now) c.args.self.now.reads.now c.in-Some.rest.now c.in-Some.first.now c.read-item.result c.loop-read.read-index c.in-Some.ensures.cases.0 c.loop-read-test.true c.read-item.is) (has_written_append _ _ _ _ _ _ (c.loop-read.invariant p) (search rules))
