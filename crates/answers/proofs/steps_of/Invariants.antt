use Rattle.std.proofs.Common.{◌≡◌, ◌≤◌, length}
use Rattle.taps.specs.Calls.{gaps}
use Rattle.onsets.specs.Onsets.{taps_in}
use Rattle.answers.proofs.Steps.{Made}
use Rattle.answers.proofs.steps_of.Given as goal

abbrev pub invariant-loop-i : goal.invariant-loop-i
invariant-loop-i l = Made (gaps (taps_in l.words)) l.all l.i × (l.count ≡ length (gaps (taps_in l.words))) × (l.count ≤ 255)
