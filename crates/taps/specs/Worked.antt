-- The book of the worked taps. Assumes nothing: this is a definition.
use Rattle.std.specs.Prelude.{ℕ, [], ◌∷◌}
use Rattle.taps.specs.Readings.{Kind, Book}

abbrev pub kind : ℕ → ℕ → Kind
kind t w = record { ticks = t; weight = w }

abbrev pub worked : Book
worked =
    record {
      kinds = kind 3 2400 ∷ kind 6 600 ∷ kind 12 0 ∷ kind 24 600 ∷ kind 8 3000 ∷ kind 4 3600 ∷ [];
      tempi = 400 ∷ 500 ∷ 600 ∷ 750 ∷ [];
      change = 20;
    }
