-- What a desk tells of taps is what they are priced as. Assumes nothing: these are statements, each named by a function's contract.
--
-- times_text: taps as a line. PricesAgree: taps as a desk leaves them, on one line, and on the next the reading that it tells of them, are priced as those taps, read at the least cost.
use Rattle.std.specs.Prelude.{◌≡◌, ℕ, List, [], ◌∷◌, ◌++◌, Ok, codes, decimal}
use Rattle.std.specs.List.{flat_map}
use Rattle.taps.specs.Readings.{Book, Read, all_cost, least, reading}
use Rattle.taps.specs.Calls.{gaps}
use Rattle.taps.specs.Promise.{GoodBook}
use Rattle.onsets.specs.Laws.{Sound}
use Rattle.text.specs.Lines.{reading_text}
use Rattle.pricing.specs.Priced.{priced_in}

-- the times of taps, with a blank between two
abbrev pub times_text : List ℕ → List ℕ
times_text [] = []
times_text (t ∷ ts) = decimal t ++ flat_map (λ u. codes " " ++ decimal u) ts

-- what is read back may be another reading than was told, where two kinds have as many ticks; it costs as little
abbrev pub PricesAgree : Type 0
PricesAgree =
    (b : Book) (ts : List ℕ) → GoodBook b → Sound 256 ts →
    (rs : List Read) × (priced_in b (times_text ts ++ (10 ∷ reading_text b (reading b 0 (gaps ts)))) ≡ Ok (ts, rs)) × (all_cost b 0 (gaps ts) rs ≡ least b 0 (gaps ts))
