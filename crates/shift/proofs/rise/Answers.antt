use Rattle.std.proofs.Common.{rules, ◌-◌, arith}
use Rattle.shift.specs.Shift.{UpTo}
use Rattle.shift.proofs.Passes.{rise_start, rise_more}
use Rattle.shift.proofs.Turns.{at_most_own}
use Rattle.shift.proofs.rise.Goals as goal

pub loop-s-init : goal.loop-s-init
loop-s-init c = rise_start c.args.change c.args.tempi.now c.args.row.now

pub overflow_add-row : goal.overflow_add-row
overflow_add-row c =
    let old = c.args.row.now in
    let j = c.loop-s.s - 1 in
    omega (
      arith,
      c.step.ensures.small,
      c.requires.small j 0 (omega arith),
      at_most_own c.args.change c.args.tempi.now old j (UpTo j) _ (omega arith) ((c.loop-s.invariant j (omega arith)).0 (omega arith)),
    )

pub loop-s-preserved : goal.loop-s-preserved
loop-s-preserved c =
    rise_more c.args.change c.args.tempi.now c.args.row.now c.requires.rising (omega arith) c.loop-s.row c.loop-s.s _ (omega arith) (omega arith) (omega arith) (search rules)
    c.loop-s.invariant

pub returns : goal.returns
returns c s h = (c.loop-s.invariant s (omega arith)).0 (omega arith)
