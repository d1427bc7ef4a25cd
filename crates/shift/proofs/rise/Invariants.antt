use Rattle.shift.proofs.Passes.{Rising}
use Rattle.shift.proofs.rise.Given as goal

abbrev pub invariant-loop-s : goal.invariant-loop-s
invariant-loop-s l = Rising l.change l.tempi l.fn.row l.row l.s
