use Rattle.std.proofs.Common.{◌≡◌, take}
use Rattle.taps.specs.Calls.{gaps}
use Rattle.onsets.specs.Onsets.{taps_in}
use Rattle.onsets.proofs.write_gaps.Given as goal

abbrev pub invariant-loop-i : goal.invariant-loop-i
invariant-loop-i l = take l.i l.front ≡ take l.i (gaps (taps_in l.words))
