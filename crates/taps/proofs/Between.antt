-- The gaps between taps, by their places, and how many reads they have. Assumes nothing.
use Rattle.std.proofs.Common.{◌≡◌, ℕ, zero, suc, ◌-◌, ◌<◌, List, [], ◌∷◌, ◌++◌, length, get_or, refl, ap, arith}
use Rattle.taps.specs.Readings.{Book, reading}
use Rattle.taps.specs.Calls.{gaps, last_of, but_last}

-- one less than there are taps
pub length_gaps : (ts : List ℕ) → length (gaps ts) ≡ length ts - 1
unfolding gaps
length_gaps [] = refl
length_gaps (t ∷ []) = refl
length_gaps (t ∷ u ∷ us) = omega (arith, length_gaps (u ∷ us))

pub gap_at : (ts : List ℕ) (i : ℕ) → suc i < length ts → get_or (gaps ts) i 0 ≡ get_or ts (suc i) 0 - get_or ts i 0
unfolding gaps
gap_at [] i inside = absurd (omega arith)
gap_at (t ∷ []) i inside = absurd (omega arith)
gap_at (t ∷ u ∷ us) zero inside = refl
gap_at (t ∷ u ∷ us) (suc i) inside = gap_at (u ∷ us) i (omega arith)

-- a tap more is a gap more, and the last tap taken back is a gap less
pub gaps_more : (t : ℕ) (ts : List ℕ) (u : ℕ) → gaps ((t ∷ ts) ++ u ∷ []) ≡ gaps (t ∷ ts) ++ (u - last_of t ts) ∷ []
unfolding gaps last_of
gaps_more t [] u = refl
gaps_more t (v ∷ vs) u = ap (λ gs. (v - t) ∷ gs) (gaps_more v vs u)

pub gaps_fewer : (t u : ℕ) (us : List ℕ) → (g : ℕ) × (gaps (t ∷ u ∷ us) ≡ gaps (but_last (t ∷ u ∷ us)) ++ g ∷ [])
unfolding gaps but_last
gaps_fewer t u [] = (u - t, refl)
gaps_fewer t u (v ∷ vs) = let rest = gaps_fewer u v vs in (rest.0, ap (λ gs. (u - t) ∷ gs) rest.1)

-- and a reading has one read for each gap
pub length_reading : (b : Book) (gs : List ℕ) (before : ℕ) → length (reading b before gs) ≡ length gs
unfolding reading
length_reading b [] before = refl
length_reading b (g ∷ gs) before = ap suc (length_reading b gs _)
