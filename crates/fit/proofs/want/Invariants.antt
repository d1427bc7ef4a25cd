-- the entries below t are written
use Rattle.std.proofs.Common.{ℕ, ◌<◌, get_or}
use Rattle.taps.specs.Readings.{before_of}
use Rattle.taps.specs.Values.{book_of}
use Rattle.fit.specs.Fit.{Wanted, change_cost}
use Rattle.fit.proofs.want.Given as goal

abbrev pub invariant-loop-t : goal.invariant-loop-t
invariant-loop-t l = (j : ℕ) → j < l.t → Wanted (get_or l.wanted j 0) l.cost (get_or l.rest j 0) (change_cost (book_of l.book) (before_of l.fn.before) j)
