-- Costs as numbers below a cap that stands for none: a loop over such numbers finds the least, and tells the same members apart. Assumes nothing.
use Rattle.std.proofs.Common.{◌≡◌, ℕ, ◌+◌, ◌<◌, ◌≤◌, min, eqb, List, [], ◌∷◌, Some, None, Option, sym, refl, ap, ◌∙◌, inl, inr, arith}
use Rattle.std.proofs.lemmas.Bool.{cases_lt}
use Rattle.std.proofs.lemmas.Bool.Decides.{nat_tests}
use Rattle.least.specs.Minima.{Least, NoMore, lower, plus, both, capped, hits, over, first, and_then, cheapest, Among}
use Rattle.least.proofs.Minimal.{Within, first_same, over_numbers}
use Rattle.least.proofs.Folds.{LeastFrom}

pub capped_below : (most : ℕ) (m : Option ℕ) → capped most m ≤ most
capped_below most None = omega arith
capped_below most (Some m) = omega arith

pub capped_lower : (most v : ℕ) (m : Option ℕ) → capped most (lower (Some v) m) ≡ min v (capped most m)
capped_lower most v None = refl
capped_lower most v (Some n) = omega arith

capped_lowers : (most : ℕ) (m n : Option ℕ) → capped most (lower m n) ≡ min (capped most m) (capped most n)
capped_lowers most None n = let below = capped_below most n in omega arith
capped_lowers most (Some m) None = omega arith
capped_lowers most (Some m) (Some n) = omega arith

-- members that cost the same under the cap have the same least under it
pub capped_over : {A : Type 0} (most : ℕ) (f h : A → Option ℕ) (xs : List A) → ((x : A) → Among x xs → capped most (f x) ≡ capped most (h x)) → capped most (over f xs) ≡ capped most (over h xs)
capped_over most f h [] same = refl
capped_over most f h (x ∷ xs) same =
    let here = same x (inl refl) in
    let rest = capped_over most f h xs (λ y a. same y (inr a)) in
    omega (arith, capped_lowers most (f x) (over f xs), capped_lowers most (h x) (over h xs))

-- what is added to a capped cost is, under the cap, added to the cost itself
pub capped_again : (most w : ℕ) (n : Option ℕ) → capped most (Some (w + capped most n)) ≡ capped most (plus w n)
capped_again most w None = omega arith
capped_again most w (Some n) = omega arith

-- two capped costs together are, under the cap, both costs together
pub capped_both : (most : ℕ) (m n : Option ℕ) → capped most (Some (capped most m + capped most n)) ≡ capped most (both m n)
capped_both most None n = omega arith
capped_both most (Some m) None = omega arith
capped_both most (Some m) (Some n) = omega arith

pub capped_within : (most : ℕ) (m : Option ℕ) (v : ℕ) → Within m v → capped most m ≤ v
capped_within most m v w = rw w.1 (omega (arith, w.2))

-- the least cost is, under the cap, what a loop finds that starts with the cap
pub capped_least : (most : ℕ) (P : ℕ → Type 0) (m : Option ℕ) → Least P m → LeastFrom P most (capped most m)
capped_least most P None l = record { below = omega arith; under = λ v p. absurd (l v p); found = inl refl }
capped_least most P (Some m) l =
    record {
      below = omega arith;
      under = λ v p. omega (arith, l.1 v p);
      found = elim (cases_lt m most) [ inl h ↦ let same : m ≡ min m most = omega arith in inr (rw same at l.0) | inr h ↦ inl (omega arith) ];
    }

-- below the cap the cost is there
pub capped_some : (most : ℕ) (m : Option ℕ) → capped most m < most → m ≡ Some (capped most m)
capped_some most None h = absurd (omega arith)
capped_some most (Some m) h = ap Some (omega arith)

-- x more is at most x more under the cap, too
pub capped_plus : (most x : ℕ) (m n : Option ℕ) → NoMore m (plus x n) → capped most m ≤ capped most n + x
capped_plus most x None None h = omega arith
capped_plus most x (Some m) None h = omega arith
capped_plus most x None (Some n) h = absurd h
capped_plus most x (Some m) (Some n) h = omega arith

-- what is met below the cap is what the costs themselves meet
capped_hits : (most w m : ℕ) (n : Option ℕ) → m < most → eqb (w + capped most n) m ≡ hits m (plus w n)
capped_hits most w m None h = grind (arith, nat_tests)
capped_hits most w m (Some n) h =
    elim (cases_lt n most) [
      | inl l ↦ let same : min n most ≡ n = omega arith in ap (λ k. eqb (w + k) m) same
      | inr l ↦
          let same : min n most ≡ most = omega arith in
          let neither : eqb (w + most) m ≡ eqb (w + n) m = grind (arith, nat_tests) in
          ap (λ k. eqb (w + k) m) same ∙ neither
    ]

-- the first with which a least below the cap is met, by capped numbers of what follows, is the first of the cheapest
pub capped_first : {A : Type 0} (w : A → ℕ) (after : A → Option ℕ) (xs : List A) (most : ℕ) (rest : A → ℕ) → ((x : A) → Among x xs → rest x ≡ capped most (after x)) → (m : ℕ) → m < most →
    over (λ x. plus (w x) (after x)) xs ≡ Some m → first (λ x. eqb (w x + rest x) m) xs ≡ cheapest (λ x. plus (w x) (after x)) xs
capped_first w after xs most rest same m small e =
    first_same (λ x. eqb (w x + rest x) m) (λ x. hits m (plus (w x) (after x))) xs (λ x a. ap (λ n. eqb (w x + n) m) (same x a) ∙ capped_hits most (w x) m (after x) small)
    ∙ sym (ap (λ o. and_then o (λ n. first (λ x. hits n (plus (w x) (after x))) xs)) e)

-- a loop that starts with the cap and adds capped costs finds the capped least
module _ {A : Type 0} (w : A → ℕ) (after : A → Option ℕ) (xs : List A) (most : ℕ) where
  abbrev pub CappedCost : ℕ → Type 0
  CappedCost v = (x : A) × Among x xs × (v ≡ w x + capped most (after x))

  pub capped_from : LeastFrom CappedCost most (capped most (over (λ x. plus (w x) (after x)) xs))
  capped_from =
      let same = capped_over most (λ x. Some (w x + capped most (after x))) (λ x. plus (w x) (after x)) xs (λ x a. capped_again most (w x) (after x)) in
      rw (sym same) (capped_least most CappedCost _ (over_numbers (λ x. w x + capped most (after x)) xs))
