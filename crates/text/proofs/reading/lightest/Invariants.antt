use Rattle.std.proofs.Common.{◌≡◌, ◌<◌, IfSome}
use Rattle.taps.specs.Values.{book_of}
use Rattle.text.specs.Notes.{lightest_of}
use Rattle.text.proofs.reading.lightest.Given as goal

-- the lightest of the kinds so far
abbrev pub invariant-loop-k : goal.invariant-loop-k
invariant-loop-k l = (l.found ≡ lightest_of (book_of l.book) l.ticks l.k) × IfSome l.found (λ j. j < l.k)
