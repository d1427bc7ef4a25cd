use Rattle.std.proofs.Common.{◌≡◌, ◌+◌, suc, drop, get_or, eqb, ap, ◌∙◌, arith}
use Rattle.std.proofs.lemmas.Grind.{get_or_after_one}
use Rattle.std.proofs.lemmas.List.{take_rest}
use Rattle.least.proofs.Minimal.{first_same}
use Rattle.taps.specs.Readings.{before_of, costs}
use Rattle.taps.specs.Values.{book_of}
use Rattle.statements.specs.Plain.{reads_of}
use Rattle.fit.specs.Fit.{first_meeting}
use Rattle.plain.specs.Restricted.{kinds_at}
use Rattle.plain.proofs.Alone.{before_state}
use Rattle.plain.proofs.PlainTrellis.first_met.Goals as goal

pub returns : goal.returns
returns c =
    let b = book_of c.args.self.now.book in
    c.first_met.ensures
    ∙ ap (λ rest. first_meeting b c.args.step.kinds.bits (before_of c.checked_sub-before.result) c.args.step.gap rest c.args.cost) (take_rest c.args.after.now 1)
    ∙ ap (λ s. first_meeting b c.args.step.kinds.bits s c.args.step.gap (drop 1 c.args.after.now) c.args.cost) (before_state c.checked_sub-before.result c.args.state c.checked_sub-before.ensures)
    ∙ first_same _ _ (reads_of b (kinds_at b c.args.step))
    (λ r a.
    let one : 1 + r.tempo ≡ suc r.tempo = omega arith in
    ap (λ n. eqb (costs b c.args.state c.args.step.gap r + n) c.args.cost) (get_or_after_one c.args.after.now r.tempo 0 ∙ ap (λ t. get_or c.args.after.now t 0) one))
