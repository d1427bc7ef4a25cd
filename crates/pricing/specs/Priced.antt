-- What two lines, of taps and of a reading, are priced as, or why they are not. Assumes nothing: these are definitions.
--
-- priced_in: the taps and the reading of a text, where the reading has a note for each gap. The first that applies is told: a line is missing, something stands behind the second, a
-- tap is not taken, the second line is no reading, there are too few notes or too many.
use Rattle.std.specs.Prelude.{ℕ, List, [], ◌∷◌, length, Ok, Err, Result, ◌==◌, if◌then◌else◌}
use Rattle.taps.specs.Readings.{Book, Read}
use Rattle.taps.specs.Calls.{gaps}
use Rattle.tokens.specs.Tokens.{before, behind, is_line_end, tokens_in}
use Rattle.text.specs.Notes.{reading_in}
use Rattle.text.specs.declared.reading.Unread.{Unread}
use Rattle.pricing.specs.TapLine.{Untaken, taps_in_line}

pub data Unpriced : Type 0 where
  no_taps : Unpriced
  no_reading : Unpriced
  more : Unpriced  -- behind the reading
  taps : Untaken → Unpriced
  reading : Unread → Unpriced
  count : ℕ → ℕ → Unpriced  -- of notes, and of gaps

abbrev pub both : Result (List ℕ) Untaken → Result (List Read) Unread → Result (List ℕ × List Read) Unpriced
both (Err e) rs = Err (taps e)
both (Ok ts) (Err e) = Err (reading e)
both (Ok ts) (Ok rs) = if length rs == length (gaps ts) then Ok (ts, rs) else Err (count (length rs) (length (gaps ts)))

-- a line of taps, a line of a reading, and what stands behind them
abbrev pub priced_by : Book → List ℕ → List ℕ → List (List ℕ) → Result (List ℕ × List Read) Unpriced
priced_by b times notes [] = both (taps_in_line times) (reading_in b notes)
priced_by b times notes (w ∷ ws) = Err more

abbrev pub with_taps : Book → List ℕ → List ℕ → Result (List ℕ × List Read) Unpriced
with_taps b times [] = Err no_reading
with_taps b times (c ∷ cs) = priced_by b times (before is_line_end (c ∷ cs)) (tokens_in (behind is_line_end (c ∷ cs)))

abbrev pub priced_in : Book → List ℕ → Result (List ℕ × List Read) Unpriced
priced_in b [] = Err no_taps
priced_in b (c ∷ cs) = with_taps b (before is_line_end (c ∷ cs)) (behind is_line_end (c ∷ cs))
