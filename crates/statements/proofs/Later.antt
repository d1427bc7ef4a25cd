-- Taps all later have the same gaps. Assumes nothing.
use Rattle.std.proofs.Common.{◌≡◌, ℕ, ◌+◌, ◌-◌, List, [], ◌∷◌, refl, ap, arith}
use Rattle.taps.specs.Readings.{least, reading}
use Rattle.taps.specs.Calls.{gaps}
use Rattle.statements.specs.Statements.{later, Later}

same_gaps : (n : ℕ) (ts : List ℕ) → gaps (later n ts) ≡ gaps ts
unfolding gaps later
same_gaps n [] = refl
same_gaps n (t ∷ []) = refl
same_gaps n (t ∷ (u ∷ us)) = let e : (u + n) - (t + n) ≡ u - t = omega arith in cc (e, same_gaps n (u ∷ us))

pub later_stands : Later
unfolding Later
later_stands b ts n = (ap (reading b 0) (same_gaps n ts), ap (least b 0) (same_gaps n ts))
