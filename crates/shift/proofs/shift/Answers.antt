use Rattle.std.proofs.Common.{◌<◌, length, arith}
use Rattle.std.proofs.lemmas.List.{get_or_default}
use Rattle.shift.specs.Shift.{UpTo}
use Rattle.shift.proofs.Passes.{two_passes}
use Rattle.shift.proofs.Turns.{at_most_own}
use Rattle.shift.proofs.shift.Goals as goal

pub fall-requires-clause-small : goal.fall-requires-clause-small
fall-requires-clause-small c k d h =
    omega (
      arith,
      get_or_default c.rise.new.row k d 0 h,
      at_most_own c.args.change c.args.tempi.now c.args.row.now k (UpTo k) _ (omega arith) (c.rise.ensures k h),
      c.requires.small k 0 (omega arith),
    )

pub returns : goal.returns
returns c =
    let old = c.args.row.now in
    let all = two_passes c.args.change c.args.tempi.now old c.rise.new.row c.fall.new.row c.rise.ensures c.fall.ensures (omega arith) (omega arith) in
    record { least = all; kept = λ s h. at_most_own c.args.change c.args.tempi.now old s (λ t. t < length old) _ (omega arith) (all s h) }
