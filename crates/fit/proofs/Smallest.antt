-- The numbers that pass a test, by the smallest of them. Assumes nothing.
use Rattle.std.proofs.Common.{◌≡◌, ℕ, zero, suc, ◌+◌, ◌<◌, ◌≤◌, Bool, true, false, ◌&&◌, not, [], ◌∷◌, length, filter, eqb, inl, inr, refl, ap, ◌∙◌, arith}
use Rattle.std.proofs.lemmas.Bool.{cases_eq}
use Rattle.std.proofs.lemmas.Bool.Decides.{nat_tests}
use Rattle.std.specs.List.{range_with_len}

pub filter_none : (p : ℕ → Bool) (lo n : ℕ) → ((i : ℕ) → i < lo + n → p i ≡ false) → filter p (range_with_len lo n) ≡ []
filter_none p lo zero none = refl
filter_none p lo (suc n) none = rw (none lo (omega arith)) (filter_none p (lo + 1) n (λ i h. none i (omega arith)))

filter_beyond : (p q : ℕ → Bool) (lo n : ℕ) → ((i : ℕ) → lo ≤ i → p i ≡ q i) → filter p (range_with_len lo n) ≡ filter q (range_with_len lo n)
filter_beyond p q lo zero same = refl
filter_beyond p q lo (suc n) same = rw (same lo (omega arith), filter_beyond p q (lo + 1) n (λ i h. same i (omega arith)))

-- k is the smallest that passes p, and q is passed by the others
module _ (p q : ℕ → Bool) (k : ℕ) (none : (i : ℕ) → i < k → p i ≡ false) (has : p k ≡ true) (others : (i : ℕ) → q i ≡ (p i && not (eqb i k))) where
  pub filter_first : (lo n : ℕ) → lo ≤ k → k < lo + n → filter p (range_with_len lo n) ≡ k ∷ filter q (range_with_len lo n)
  filter_first lo zero low high = absurd (omega arith)
  filter_first lo (suc n) low high =
      let here = others lo in
      elim (cases_eq lo k) [
        | inl e ↦
            let in_p : p lo ≡ true = ap p e ∙ has in
            let not_q : q lo ≡ false = grind (arith, nat_tests) in
            rw (in_p, not_q, e) (ap (λ ks. k ∷ ks) (filter_beyond p q (k + 1) n (λ i h. let beyond = others i in grind (arith, nat_tests))))
        | inr d ↦
            let not_p = none lo (omega arith) in
            let not_q : q lo ≡ false = grind (arith, nat_tests) in
            rw (not_p, not_q) (filter_first (lo + 1) n (omega arith) (omega arith))
      ]

  pub fewer : (lo n : ℕ) → lo ≤ k → k < lo + n → length (filter q (range_with_len lo n)) < length (filter p (range_with_len lo n))
  fewer lo n low high = omega (arith, ap length (filter_first lo n low high))
