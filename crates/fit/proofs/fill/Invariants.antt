use Rattle.std.proofs.Common.{◌≡◌, length}
use Rattle.taps.specs.Values.{book_of}
use Rattle.fit.proofs.Row.{Filled}
use Rattle.fit.proofs.fill.Given as goal

abbrev pub invariant-loop-k : goal.invariant-loop-k
invariant-loop-k l = Filled (book_of l.book) l.set.bits l.gap 4294967295 l.least l.k × (length l.least ≡ length (book_of l.book).tempi)
