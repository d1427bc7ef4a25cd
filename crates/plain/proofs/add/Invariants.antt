-- the entries below t are added to, and the others are as they were
use Rattle.std.proofs.Common.{◌≡◌, ◌+◌, ℕ, ◌<◌, ◌≤◌, min, get_or}
use Rattle.taps.specs.Readings.{too_much}
use Rattle.plain.proofs.add.Given as goal

abbrev pub invariant-loop-t : goal.invariant-loop-t
invariant-loop-t l =
    (j : ℕ) → (j < l.t → get_or l.row j 0 ≡ min (get_or l.fn.row j 0 + get_or l.costs j 0) too_much) × (l.t ≤ j → get_or l.row j 0 ≡ get_or l.fn.row j 0)
