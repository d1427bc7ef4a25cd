use Rattle.shift.proofs.Passes.{Falling}
use Rattle.shift.proofs.fall.Given as goal

abbrev pub invariant-loop-s : goal.invariant-loop-s
invariant-loop-s l = Falling l.change l.tempi l.fn.row l.row l.s
