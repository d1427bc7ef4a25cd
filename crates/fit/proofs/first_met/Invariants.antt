-- nothing is found yet, and what is to be found is found among the kinds that can still be first; each time they are fewer
use Rattle.std.proofs.Common.{◌≡◌, None, length}
use Rattle.taps.specs.Readings.{before_of}
use Rattle.taps.specs.Values.{book_of}
use Rattle.fit.specs.Fit.{allowed, first_meeting}
use Rattle.fit.proofs.Meeting.{here}
use Rattle.fit.proofs.first_met.Given as goal

abbrev pub invariant-kinds : goal.invariant-kinds
invariant-kinds l =
    (l.found ≡ None) × (first_meeting (book_of l.book) l.open.bits (before_of l.fn.before) l.gap l.rest l.cost ≡ first_meeting (book_of l.book) l.fn.set.bits (before_of l.fn.before) l.gap l.rest l.cost)

abbrev pub decreases-kinds : goal.decreases-kinds
decreases-kinds l = length (allowed (book_of l.book) l.open.bits)

abbrev pub invariant-loop-t : goal.invariant-loop-t
invariant-loop-t l =
    (l.found ≡ None) × (here (book_of l.book) (before_of l.fn.before) l.gap l.rest l.cost l.open.bits l.k l.t ≡ first_meeting (book_of l.book) l.fn.set.bits (before_of l.fn.before) l.gap l.rest l.cost)
