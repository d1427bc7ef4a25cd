-- Two lists of taps with their readings, worked out. Assumes nothing: these are definitions and statements.
--
-- notes: a reading as ticks and tempi.
use Rattle.std.specs.Prelude.{◌≡◌, ℕ, List, [], ◌∷◌, map}
use Rattle.taps.specs.Readings.{Book, Read, kind_at, tempo_at, least, reading}
use Rattle.taps.specs.Calls.{gaps}
use Rattle.taps.specs.Worked.{worked}

abbrev pub notes : Book → List Read → List (ℕ × ℕ)
notes b rs = map (λ r. ((kind_at b r.kind).ticks, tempo_at b r.tempo)) rs

-- taps at 0 and 240 cost 720, and are read as 6@500
unfoldable pub TwoTaps : Type 0
TwoTaps = (least worked 0 (gaps (0 ∷ 240 ∷ [])) ≡ 720) × (notes worked (reading worked 0 (gaps (0 ∷ 240 ∷ []))) ≡ (6, 500) ∷ [])

-- one tap, at 100, costs nothing, and has no gap to read
unfoldable pub OneTap : Type 0
OneTap = (least worked 0 (gaps (100 ∷ [])) ≡ 0) × (reading worked 0 (gaps (100 ∷ [])) ≡ [])
