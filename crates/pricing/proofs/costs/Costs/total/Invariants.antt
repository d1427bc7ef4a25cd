use Rattle.std.proofs.Common.{◌≡◌, ◌+◌, ◌*◌, ◌≤◌, map, drop}
use Rattle.taps.specs.Calls.{gaps}
use Rattle.taps.specs.Readings.{before_of, all_cost}
use Rattle.taps.specs.Values.{book_of, read_of, reading_of}
use Rattle.pricing.specs.Values.{times_of}
use Rattle.pricing.proofs.costs.Costs.total.Given as goal

-- with what is left to cost it is the cost of all, and each gap so far cost little
abbrev pub invariant-loop-i : goal.invariant-loop-i
invariant-loop-i l = record {
  whole : l.total + all_cost (book_of l.self.book.now) (before_of l.before) (drop l.i (gaps (times_of l.self.taps))) (map read_of (drop l.i l.reads)) ≡ all_cost (book_of l.self.book.now) 0 (gaps (times_of l.self.taps)) (reading_of l.self.reading);
  small : l.total ≤ l.i * 68719476735;
}
