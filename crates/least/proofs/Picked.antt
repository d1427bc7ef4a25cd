-- The first place of a row's least number, as `reduce` keeps it among the row's numbers with their places. Assumes nothing.
use Rattle.std.proofs.Common.{◌≡◌, ℕ, ◌+◌, ◌<◌, Bool, ltb, true, false, cond, suc, List, [], ◌∷◌, map, length, get_or, None, Some, Option, refl, sym, ap, ◌∙◌, subst, arith}
use denote.Param.Members.{Mut}
use Rattle.std.specs.Fn.{Called}
use Rattle.std.specs.Iterator.{FoldTurn, ReducesItems}
use Rattle.std.specs.List.{FoldsTo, best_of, enumerate_from}
use Rattle.std.specs.Option.{option_map}
use Rattle.std.proofs.lemmas.Bool.{ltb-true, ltb-false}
use Rattle.std.proofs.lemmas.Iterator.{YieldsList, items_from_drains}
use Rattle.std.proofs.lemmas.List.{get_or_default}
use Rattle.std.proofs.lemmas.List.FromFn.{length-enumerate_from, get_or-enumerate_from}
use Rattle.std.proofs.lemmas.List.MinMax.{IsStrictWeakOrder-by_number, IsFirstBest-from_best_of}
use Rattle.least.specs.Minima.{FirstBelow, FirstLeast}

-- a place and its number come before another if the number is less
abbrev less : ℕ × ℕ → ℕ × ℕ → Bool
less p q = ltb p.1 q.1

inside_either : (t : Bool) (p q : ℕ × ℕ) (n : ℕ) → p.0 < n → q.0 < n → (cond t p q).0 < n
inside_either true p q n l m = l
inside_either false p q n l m = m

-- v reads an item as a place below n and its number, and each call of the closure gives the second of two such items if it comes before the first, and else the first: what is kept in the end is the best of all, and of equal ones the first
module _ {A F : Type 0} (v : A → ℕ × ℕ) (n : ℕ) (g : Mut F (A × (A × Unit {0})) A) (f : F) (gives : (x y r : A) (q : F) → (v x).0 < n → (v y).0 < n → Called g f (x, (y, tt)) r q → (q ≡ f) × (v r ≡ cond (less (v y) (v x)) (v y) (v x))) where
  kept : (xs : List A) (p q : F × A) → p.0 ≡ f → (v p.1).0 < n → ((k : ℕ) → k < length (map v xs) → (get_or (map v xs) k (0, 0)).0 < n) → FoldsTo {P = F × A} (FoldTurn g) p xs q → v q.1 ≡ best_of less (v p.1) (map v xs)
  kept [] p q s l all h = ap (λ w. v w.1) (sym h)
  kept (x ∷ xs) p q s l all h =
      let m : (v x).0 < n = all 0 (omega arith) in
      let c = gives p.1 x h.0.1 h.0.0 l m (subst (λ w. Called g w (p.1, (x, tt)) h.0.1 h.0.0) s h.1) in
      let i : (v h.0.1).0 < n = subst (λ w. w.0 < n) (sym c.1) (inside_either (less (v x) (v p.1)) (v x) (v p.1) n m l) in
      kept xs h.0 q c.0 i (λ k o. all (suc k) (omega (arith, o))) h.2 ∙ ap (λ w. best_of less w (map v xs)) c.1

-- and the first best of a row's numbers with their places stands at the first place of the least
first_best : (xs : List ℕ) (a : ℕ × ℕ) (rest : List (ℕ × ℕ)) → a ∷ rest ≡ enumerate_from 0 xs → FirstBelow (λ k. get_or xs k 0) (length xs) (best_of less a rest).0
first_best xs a rest e =
    let b = IsFirstBest-from_best_of (IsStrictWeakOrder-by_number (λ p. p.1)) a rest in
    let i : ℕ = b.0 in
    let long : length (a ∷ rest) ≡ length xs = ap length e ∙ length-enumerate_from 0 xs in
    let at : (k : ℕ) → k < length xs → get_or (a ∷ rest) k (0, 0) ≡ (0 + k, get_or xs k 0) = λ k l. ap (λ w. get_or w k (0, 0)) e ∙ get_or-enumerate_from 0 xs k (0, 0) l in
    let inside : i < length xs = omega (arith, b.1.0, long) in
    let place : (best_of less a rest).0 ≡ i = omega (arith, ap (λ p. p.0) (sym b.2 ∙ get_or_default (a ∷ rest) i a (0, 0) b.1.0 ∙ at i inside)) in
    let number : (k : ℕ) → k < length xs → (get_or (a ∷ rest) k (0, 0)).1 ≡ get_or xs k 0 = λ k l. ap (λ p. p.1) (at k l) in
    subst (FirstBelow (λ k. get_or xs k 0) (length xs)) (sym place) (
      inside,
      λ j l. omega (arith, ltb-false _ _ (b.1.1 j (0, 0) (omega (arith, l, long))), number i inside, number j l),
      λ j l. omega (arith, ltb-true _ _ (b.1.2 j (0, 0) l), number i inside, number j (omega (arith, l, inside))),
    )

-- so `reduce` over a row's numbers with their places keeps the first place of the least
pub first_kept : {S A F : Type 0} {steps : S → Option A → S → Type 0} {v : A → ℕ × ℕ} {g : Mut F (A × (A × Unit {0})) A} {f : F} (xs : List ℕ) (s : S) (r : Option A) (i : Option ℕ) →
    YieldsList steps v s (enumerate_from 0 xs) → ReducesItems steps g s f r → ((x y z : A) (q : F) → (v x).0 < length xs → (v y).0 < length xs → Called g f (x, (y, tt)) z q → (q ≡ f) × (v z ≡ cond (less (v y) (v x)) (v y) (v x))) →
    i ≡ option_map (λ y. (v y).0) r → FirstLeast xs i
first_kept xs s None i road ran gives is =
    let none : [] ≡ enumerate_from 0 xs = items_from_drains [] (ran.1.0, ran.1.1, λ _. (ran.0, ran.1.2)) road in
    rw is (sym (ap length none ∙ length-enumerate_from 0 xs))
first_kept {v = v} {g = g} {f = f} xs s (Some y) i road ran gives is =
    let all : v ran.0 ∷ map v ran.1 ≡ enumerate_from 0 xs = items_from_drains (ran.0 ∷ ran.1) (ran.3.1.0, ran.3.1.1, λ _. (ran.3.0, ran.3.1.2)) road in
    let long : length (v ran.0 ∷ map v ran.1) ≡ length xs = ap length all ∙ length-enumerate_from 0 xs in
    let below : (k : ℕ) → k < length (v ran.0 ∷ map v ran.1) → (get_or (v ran.0 ∷ map v ran.1) k (0, 0)).0 < length xs =
    λ k l. let o : k < length xs = omega (arith, l, long) in subst (λ (p : ℕ × ℕ). p.0 < length xs) (sym (ap (λ w. get_or w k (0, 0)) all ∙ get_or-enumerate_from 0 xs k (0, 0) o)) (omega (arith, o)) in
    rw (is, kept v (length xs) g f gives ran.1 (f, ran.0) (ran.2, y) refl (below 0 (omega arith)) (λ k l. below (suc k) (omega (arith, l))) ran.4) (first_best xs (v ran.0) (map v ran.1) all)
