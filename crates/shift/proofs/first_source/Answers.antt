use Rattle.std.proofs.Common.{◌≡◌, ◌^◌, ◌-◌, length, inl, refl, arith}
use Rattle.least.proofs.Places.{so_far_lower, so_far_kept, so_far_all}
use Rattle.shift.specs.Shift.{reached}
use Rattle.shift.proofs.first_source.Goals as goal
use Rattle.shift.proofs.first_source.Goals.{then-cost-least, else-cost-least}

pub loop-t-init : goal.loop-t-init
loop-t-init c = inl (refl, refl)

pub loop-t-preserved : goal.loop-t-preserved
loop-t-preserved c =
    let f = reached c.args.change c.args.tempi.now c.args.row.now c.args.at in
    let cost = c.cost_from-cost.result in
    elim c.if-cost-least.branch [
      | then-cost-least w ↦
          rw (w.first-is, w.least-is) (so_far_lower f (2 ^ 64 - 1) c.loop-t.t c.loop-t.first c.loop-t.least cost c.loop-t.invariant c.cost_from-cost.ensures.value w.if-cost-least.true)
      | else-cost-least w ↦
          rw (w.first-is, w.least-is) (
          so_far_kept f (2 ^ 64 - 1) c.loop-t.t c.loop-t.first c.loop-t.least cost c.loop-t.invariant c.cost_from-cost.ensures.value c.cost_from-cost.ensures.small w.if-cost-least.false
          )
    ]

pub returns : goal.returns
returns c =
    let all : c.loop-t.t ≡ length c.args.row.now = omega arith in
    let f = reached c.args.change c.args.tempi.now c.args.row.now c.args.at in
    so_far_all f (2 ^ 64 - 1) (length c.args.row.now) c.loop-t.first c.loop-t.least (rw all at c.loop-t.invariant) (omega arith)
