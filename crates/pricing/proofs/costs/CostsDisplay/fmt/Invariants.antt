use Rattle.std.proofs.Common.{◌≡◌, ℕ, List, ◌++◌, map, drop}
use Rattle.std.specs.Fmt.{HasWritten, IsPlainFormatter}
use Rattle.taps.specs.Calls.{gaps}
use Rattle.taps.specs.Readings.{before_of}
use Rattle.taps.specs.Values.{book_of, read_of, reading_of}
use Rattle.pricing.specs.Pricing.{costs_text}
use Rattle.pricing.specs.Values.{times_of}
use Rattle.pricing.proofs.costs.CostsDisplay.fmt.Given as goal

-- with what is left to write it is the text of all
abbrev pub invariant-loop-i : goal.invariant-loop-i
invariant-loop-i g l =
    IsPlainFormatter l.fn.f →
    (w : List ℕ) × HasWritten g.W.Write.write_str_gives l.fn.f w l.f
    × (w ++ costs_text (book_of l.self.book.now) (before_of l.before) (drop l.i (gaps (times_of l.self.taps))) (map read_of (drop l.i l.reads))
    ≡ costs_text (book_of l.self.book.now) 0 (gaps (times_of l.self.taps)) (reading_of l.self.reading))
