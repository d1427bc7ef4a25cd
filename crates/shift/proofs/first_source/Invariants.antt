use Rattle.std.proofs.Common.{◌^◌, ◌-◌}
use Rattle.least.proofs.Places.{FirstSoFar}
use Rattle.shift.specs.Shift.{reached}
use Rattle.shift.proofs.first_source.Given as goal

abbrev pub invariant-loop-t : goal.invariant-loop-t
invariant-loop-t l = FirstSoFar (reached l.change l.tempi l.row l.at) (2 ^ 64 - 1) l.t l.first l.least
