use Rattle.std.proofs.Common.{sym, ◌∙◌, arith}
use Rattle.pricing.proofs.Held.{gap_below}
use Rattle.pricing.proofs.tap_list.Taps.gap.Goals as goal

pub overflow_cast-result : goal.overflow_cast-result
overflow_cast-result c =
    let small = gap_below _ _ _ c.args.self.now.sound (sym c.gap.ensures ∙ c.in_ok-gap.was) in
    omega (arith, small)
