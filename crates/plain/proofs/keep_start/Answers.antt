use Rattle.std.proofs.Common.{ap, ◌∙◌}
use Rattle.octets.specs.Bytes.{room, written}
use Rattle.taps.specs.Values.{book_of}
use Rattle.taps.proofs.Good.{book_is_good}
use Rattle.plain.proofs.Freely.{free_start}
use Rattle.plain.proofs.keep_start.Goals as goal

pub returns-clause-value : goal.returns-clause-value
returns-clause-value c = c.keep_start.ensures.value ∙ ap (λ ws. room ws c.args.kept.now) (free_start (book_of c.args.book.now) (book_is_good c.args.book.now).1)

pub returns-clause-after : goal.returns-clause-after
returns-clause-after c = c.keep_start.ensures.after ∙ ap (λ ws. written ws c.args.kept.now) (free_start (book_of c.args.book.now) (book_is_good c.args.book.now).1)
