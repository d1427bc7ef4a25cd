-- the states below s have their entries
use Rattle.std.proofs.Common.{◌≡◌, ℕ, ◌<◌, get_or}
use Rattle.least.specs.Minima.{capped}
use Rattle.least.specs.Readers.{begin}
use Rattle.taps.specs.Readings.{too_much}
use Rattle.model.proofs.keep_start.Given as goal

abbrev pub invariant-loop-s : goal.invariant-loop-s
invariant-loop-s g l = (j : ℕ) → j < l.s → get_or l.row j 0 ≡ capped too_much (begin (g.M.Trellis.reader l.model) (g.M.Trellis.states l.model) j)
