use Rattle.std.proofs.Common.{length, Some, sym, ap, ◌∙◌, subst}
use Rattle.std.proofs.lemmas.List.{length-map}
use Rattle.octets.specs.Bytes.{StartsWith}
use Rattle.taps.specs.Readings.{least}
use Rattle.taps.specs.Values.{book_of}
use Rattle.taps.proofs.Good.{book_is_good}
use Rattle.plain.specs.Rows.{kept_rows}
use Rattle.plain.proofs.Freely.{free_steps, free_kept, free_least}
use Rattle.plain.proofs.kept_cost.Goals as goal

pub returns-clause-value : goal.returns-clause-value
returns-clause-value c =
    λ gs many short starts.
    let b = book_of c.args.book.now in
    let few = (book_is_good c.args.book.now).1 in
    let ss = free_steps gs short in
    let done = sym (length-map ss.0 (λ g. g.gap)) ∙ ap length ss.1 ∙ many in
    let kept = free_kept b few ss.0 ss.2 ∙ ap (kept_rows b) ss.1 in
    c.kept_cost.ensures.value ss.0 done (subst (λ ws. StartsWith ws c.args.kept.now) (sym kept) starts) ∙ ap Some (free_least b few ss.0 ss.2 ∙ ap (least b 0) ss.1)
