use Rattle.taps.specs.Values.{book_of}
use Rattle.taps.proofs.Good.{book_is_good}
use Rattle.plain.proofs.Freely.{free_gap}
use Rattle.plain.proofs.keep_gap.Goals as goal

pub returns-clause-after : goal.returns-clause-after
returns-clause-after c =
    free_gap (book_of c.args.book.now) (book_is_good c.args.book.now).1 c.args.done c.args.kept.now c.keep_step.new.kept c.keep_step.result _ c.full-kinds.ensures c.keep_step.ensures.after
