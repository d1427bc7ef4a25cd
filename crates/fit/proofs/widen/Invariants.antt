-- the entries below t are written
use Rattle.std.proofs.Common.{◌≡◌, ℕ, ◌<◌, get_or, eqb}
use Rattle.taps.specs.Readings.{pick, too_much}
use Rattle.fit.proofs.widen.Given as goal

abbrev pub invariant-loop-t : goal.invariant-loop-t
invariant-loop-t l = (j : ℕ) → j < l.t → get_or l.row j 0 ≡ pick (eqb (get_or l.least j 0) 4294967295) too_much (get_or l.least j 0)
