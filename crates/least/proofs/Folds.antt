-- Loops that find a least number: each starts with some number and takes one candidate after the other. Assumes nothing.
use Rattle.std.proofs.Common.{◌≡◌, ℕ, zero, suc, ◌≤◌, min, ◌⊎◌, sym, refl, ◌∙◌, subst, inl, inr, arith}
use Rattle.std.proofs.lemmas.Bool.{cases_lt}
use Rattle.least.specs.Minima.{Below}

-- m is the least of a and of the numbers that P holds of: what a loop finds that starts with a
pub record LeastFrom (P : ℕ → Type 0) (a m : ℕ) : Type 0 where
  pub below : m ≤ a
  pub under : (v : ℕ) → P v → m ≤ v
  pub found : (m ≡ a) ⊎ P m

pub from_one : (x a : ℕ) → LeastFrom (λ v. v ≡ x) a (min a x)
from_one x a =
    record {
      below = omega arith;
      under = λ v e. omega arith;
      found = elim (cases_lt x a) [ inl l ↦ inr (omega arith) | inr l ↦ inl (omega arith) ];
    }

-- first the candidates P and then the candidates Q: the least of both
from_then : (P Q R : ℕ → Type 0) (a m n : ℕ) → LeastFrom P a m → LeastFrom Q m n → ((v : ℕ) → R v → P v ⊎ Q v) → ((v : ℕ) → P v → R v) → ((v : ℕ) → Q v → R v) → LeastFrom R a n
from_then P Q R a m n p q either left right =
    record {
      below = omega (arith, p.below, q.below);
      under = λ v h. elim (either v h) [ inl x ↦ omega (arith, q.below, p.under v x) | inr x ↦ q.under v x ];
      found = elim q.found [
        | inl e ↦ elim p.found [ inl d ↦ inl (e ∙ d) | inr x ↦ inr (left n (subst P (sym e) x)) ]
        | inr x ↦ inr (right n x)
      ];
    }

-- a k below n + 1 is below n or is n
below_either : (C : ℕ → ℕ → Type 0) (n v : ℕ) → Below C (suc n) v → Below C n v ⊎ C n v
below_either C n v h =
    elim (cases_lt h.0 n) [
      | inl l ↦ inl (h.0, l, h.2)
      | inr l ↦ let last : h.0 ≡ n = omega (arith, h.1) in inr (subst (λ k. C k v) last h.2)
    ]

below_less : (C : ℕ → ℕ → Type 0) (n v : ℕ) → Below C n v → Below C (suc n) v
below_less C n v h = (h.0, omega (arith, h.1), h.2)

below_last : (C : ℕ → ℕ → Type 0) (n v : ℕ) → C n v → Below C (suc n) v
below_last C n v h = (n, omega arith, h)

-- a loop over no candidates
pub below_none : (C : ℕ → ℕ → Type 0) (a : ℕ) → LeastFrom (Below C 0) a a
below_none C a = record { below = omega arith; under = λ v h. omega (arith, h.1); found = inl refl }

-- a fold from the last on, whose step is least in its turn: folds nest
module _ (C : ℕ → ℕ → Type 0) (step fold : ℕ → ℕ → ℕ) (none : (a : ℕ) → fold 0 a ≡ a) (more : (n a : ℕ) → fold (suc n) a ≡ fold n (step n a)) (each : (n a : ℕ) → LeastFrom (C n) a (step n a)) where
  pub from_fold : (n a : ℕ) → LeastFrom (Below C n) a (fold n a)
  from_fold zero a = rw none (below_none C a)
  from_fold (suc n) a =
      rw more
      (from_then (C n) (Below C n) (Below C (suc n)) a (step n a) (fold n (step n a)) (each n a) (from_fold n (step n a))
      (λ v h. elim (below_either C n v h) [ inl x ↦ inr x | inr x ↦ inl x ]) (below_last C n) (below_less C n))

-- v is no lower than a, or than some candidate of P
abbrev pub Near : (ℕ → Type 0) → ℕ → ℕ → Type 0
Near P a v = (a ≤ v) ⊎ ((u : ℕ) × P u × (u ≤ v))

from_lower : (P Q : ℕ → Type 0) (a m n : ℕ) → LeastFrom P a m → LeastFrom Q a n → ((v : ℕ) → Q v → Near P a v) → m ≤ n
from_lower P Q a m n p q near =
    elim q.found [
      | inl e ↦ omega (arith, p.below)
      | inr x ↦ elim (near n x) [ inl h ↦ omega (arith, p.below) | inr h ↦ omega (arith, p.under h.0 h.1, h.2) ]
    ]

-- where each candidate of the one is no lower than one of the other, or than what the loops start with, both find the same
pub from_near : (P Q : ℕ → Type 0) (a m n : ℕ) → LeastFrom P a m → LeastFrom Q a n → ((v : ℕ) → P v → Near Q a v) → ((v : ℕ) → Q v → Near P a v) → m ≡ n
from_near P Q a m n p q to back = let up = from_lower P Q a m n p q back in let down = from_lower Q P a n m q p to in omega arith

-- there is one least, in whichever order the candidates are taken
pub from_same : (P Q : ℕ → Type 0) (a m n : ℕ) → LeastFrom P a m → LeastFrom Q a n → ((v : ℕ) → P v → Q v) → ((v : ℕ) → Q v → P v) → m ≡ n
from_same P Q a m n p q to back = from_near P Q a m n p q (λ v x. inr (v, to v x, omega arith)) (λ v x. inr (v, back v x, omega arith))
