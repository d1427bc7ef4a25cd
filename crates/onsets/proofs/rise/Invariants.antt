use Rattle.std.proofs.Common.{◌≡◌, take}
use Rattle.onsets.specs.Laws.{rises}
use Rattle.onsets.proofs.rise.Given as goal

abbrev pub invariant-loop-i : goal.invariant-loop-i
invariant-loop-i l = l.rising ≡ rises (take l.i l.times)
