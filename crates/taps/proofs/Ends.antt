-- The last tap, and all but the last, by their places.
use Rattle.std.proofs.Common.{◌≡◌, ℕ, suc, ◌-◌, ◌<◌, List, [], ◌∷◌, length, get_or, take, refl, ap, ◌∙◌, arith}
use Rattle.taps.specs.Calls.{last_of, but_last}

pub last_is : (t : ℕ) (ts : List ℕ) → 0 < length ts → last_of t ts ≡ get_or ts (length ts - 1) 0
unfolding last_of
last_is t [] some = absurd (omega arith)
last_is t (u ∷ []) some = refl
last_is t (u ∷ v ∷ vs) some =
    let shift : suc (length (v ∷ vs) - 1) ≡ length (u ∷ v ∷ vs) - 1 = omega arith in
    last_is u (v ∷ vs) (omega arith) ∙ ap (λ k. get_or (u ∷ v ∷ vs) k 0) shift

pub but_last_is : (ts : List ℕ) → but_last ts ≡ take (length ts - 1) ts
unfolding but_last
but_last_is [] = refl
but_last_is (t ∷ []) = refl
but_last_is (t ∷ u ∷ us) =
    let shift : suc (length (u ∷ us) - 1) ≡ length (t ∷ u ∷ us) - 1 = omega arith in
    ap (λ l. t ∷ l) (but_last_is (u ∷ us)) ∙ ap (λ k. take k (t ∷ u ∷ us)) shift
