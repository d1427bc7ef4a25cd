-- Members of lists that are made of lists, and which of them are met sooner. Assumes nothing.
use Rattle.std.proofs.Common.{◌≡◌, ℕ, zero, suc, ◌+◌, ◌<◌, ◌≤◌, Bool, true, ◌⊎◌, List, [], ◌∷◌, ◌++◌, map, filter, sym, refl, ap, ◌∙◌, subst, inl, inr, arith}
use Rattle.std.specs.List.{range_with_len}
use Rattle.std.proofs.lemmas.Bool.{both_ways, cases_Bool, cases_lt, cond-true, cond-false}
use Rattle.least.specs.Minima.{joined, Among, Sooner}

among_either : {A : Type 0} (x : A) (xs ys : List A) → Among x (xs ++ ys) → Among x xs ⊎ Among x ys
among_either x [] ys a = inr a
among_either x (z ∷ zs) ys (inl e) = inl (inl e)
among_either x (z ∷ zs) ys (inr a) = elim (among_either x zs ys a) [ inl p ↦ inl (inr p) | inr p ↦ inr p ]

among_left : {A : Type 0} (x : A) (xs ys : List A) → Among x xs → Among x (xs ++ ys)
among_left x [] ys a = absurd a
among_left x (z ∷ zs) ys (inl e) = inl e
among_left x (z ∷ zs) ys (inr a) = inr (among_left x zs ys a)

among_right : {A : Type 0} (x : A) (xs ys : List A) → Among x ys → Among x (xs ++ ys)
among_right x [] ys a = a
among_right x (z ∷ zs) ys a = inr (among_right x zs ys a)

pub map_from : {A B : Type 0} (f : A → B) (y : B) (xs : List A) → Among y (map f xs) → (x : A) × Among x xs × (y ≡ f x)
map_from f y [] a = absurd a
map_from f y (x ∷ xs) (inl e) = (x, inl refl, e)
map_from f y (x ∷ xs) (inr a) = let r = map_from f y xs a in (r.0, inr r.1, r.2)

map_has : {A B : Type 0} (f : A → B) (x : A) (xs : List A) → Among x xs → Among (f x) (map f xs)
map_has f x [] a = absurd a
map_has f x (z ∷ zs) (inl e) = inl (ap f e)
map_has f x (z ∷ zs) (inr a) = inr (map_has f x zs a)

joined_from : {A B : Type 0} (f : A → List B) (y : B) (xs : List A) → Among y (joined f xs) → (x : A) × Among x xs × Among y (f x)
joined_from f y [] a = absurd a
joined_from f y (x ∷ xs) a =
    elim (among_either y (f x) (joined f xs) a) [
      | inl p ↦ (x, inl refl, p)
      | inr p ↦ let r = joined_from f y xs p in (r.0, inr r.1, r.2)
    ]

joined_has : {A B : Type 0} (f : A → List B) (y : B) (x : A) (xs : List A) → Among x xs → Among y (f x) → Among y (joined f xs)
joined_has f y x [] a b = absurd a
joined_has f y x (z ∷ zs) (inl e) b = among_left y (f z) (joined f zs) (rw e at b)
joined_has f y x (z ∷ zs) (inr a) b = among_right y (f z) (joined f zs) (joined_has f y x zs a b)

-- what is met first in two lists is met first in the one, or in the other if the one has not what is met later
sooner_either : {A : Type 0} (x y : A) (xs ys : List A) → Sooner x y (xs ++ ys) → (Among x xs × Sooner x y xs) ⊎ ((Among y xs → ⊥) × Sooner x y ys)
sooner_either x y [] ys p = inr (λ a. a, p)
sooner_either x y (z ∷ zs) ys (inl e) = inl (inl e, inl e)
sooner_either x y (z ∷ zs) ys (inr p) =
    elim (sooner_either x y zs ys p.1) [
      | inl q ↦ inl (inr q.0, inr (p.0, q.1))
      | inr q ↦ inr (λ a. elim a [ inl e ↦ p.0 e | inr b ↦ q.0 b ], q.1)
    ]

-- what passes a test stands in the same order as before
pub filter_from : {A : Type 0} (p : A → Bool) (x : A) (xs : List A) → Among x (filter p xs) → Among x xs × (p x ≡ true)
filter_from p x [] a = absurd a
filter_from p x (z ∷ zs) a =
    elim (cases_Bool (p z)) [
      | inl e ↦ elim (subst (Among x) (cond-true (p z) (z ∷ filter p zs) (filter p zs) e) a) [
        | inl same ↦ (inl same, ap p same ∙ e)
        | inr b ↦ let r = filter_from p x zs b in (inr r.0, r.1)
      ]
      | inr e ↦ let r = filter_from p x zs (subst (Among x) (cond-false (p z) (z ∷ filter p zs) (filter p zs) e) a) in (inr r.0, r.1)
    ]

pub filter_has : {A : Type 0} (p : A → Bool) (x : A) (xs : List A) → Among x xs → p x ≡ true → Among x (filter p xs)
filter_has p x [] a h = absurd a
filter_has p x (z ∷ zs) a h =
    elim (cases_Bool (p z)) [
      | inl e ↦ subst (Among x) (sym (cond-true (p z) (z ∷ filter p zs) (filter p zs) e)) (elim a [ inl same ↦ inl same | inr b ↦ inr (filter_has p x zs b h) ])
      | inr e ↦
          subst (Among x) (sym (cond-false (p z) (z ∷ filter p zs) (filter p zs) e))
          (elim a [ inl same ↦ absurd (both_ways (p z) e (ap p (sym same) ∙ h)) | inr b ↦ filter_has p x zs b h ])
    ]

pub filter_sooner : {A : Type 0} (p : A → Bool) (x y : A) (xs : List A) → p y ≡ true → Sooner x y (filter p xs) → Sooner x y xs
filter_sooner p x y [] h s = absurd s
filter_sooner p x y (z ∷ zs) h s =
    elim (cases_Bool (p z)) [
      | inl e ↦ elim (subst (Sooner x y) (cond-true (p z) (z ∷ filter p zs) (filter p zs) e) s) [
        | inl same ↦ inl same
        | inr q ↦ inr (q.0, filter_sooner p x y zs h q.1)
      ]
      | inr e ↦ inr (λ same. both_ways (p z) e (ap p (sym same) ∙ h), filter_sooner p x y zs h (subst (Sooner x y) (cond-false (p z) (z ∷ filter p zs) (filter p zs) e) s))
    ]

-- pairs, by their first parts and for each of these by the second parts that go with it
module _ {A B C : Type 0} (pair : A → B → C) (seconds : A → List B) where
  abbrev pub pairs : List A → List C
  pairs xs = joined (λ x. map (pair x) (seconds x)) xs

  pub pairs_from : (z : C) (xs : List A) → Among z (pairs xs) → (x : A) × (y : B) × Among x xs × Among y (seconds x) × (z ≡ pair x y)
  pairs_from z xs a =
      let j = joined_from (λ x. map (pair x) (seconds x)) z xs a in
      let m = map_from (pair j.0) z (seconds j.0) j.2 in
      (j.0, m.0, j.1, m.1, m.2)

  pub pairs_have : (x : A) (y : B) (xs : List A) → Among x xs → Among y (seconds x) → Among (pair x y) (pairs xs)
  pairs_have x y xs a b = joined_has (λ z. map (pair z) (seconds z)) (pair x y) x xs a (map_has (pair x) y (seconds x) b)

-- they are met in the order of the first parts, and then of the second
module _ {A B C : Type 0} (pair : A → B → C) (seconds : A → List B) (left : (a c : A) (b d : B) → pair a b ≡ pair c d → a ≡ c) (right : (a c : A) (b d : B) → pair a b ≡ pair c d → b ≡ d) where
  sooner_second : (x a c : A) (b d : B) (ys : List B) → c ≡ x → Sooner (pair a b) (pair c d) (map (pair x) ys) → Sooner b d ys
  sooner_second x a c b d [] e p = absurd p
  sooner_second x a c b d (y ∷ ys) e (inl q) = inl (right a x b y q)
  sooner_second x a c b d (y ∷ ys) e (inr q) = inr (λ f. q.0 (cc), sooner_second x a c b d ys e q.1)

  module _ (a c : A) (b d : B) (there : Among d (seconds c)) where
    first_is : (x : A) → Among (pair a b) (map (pair x) (seconds x)) → a ≡ x
    first_is x i = let m = map_from (pair x) (pair a b) (seconds x) i in left a x b m.0 m.2

    first_has : (x : A) → c ≡ x → Among (pair c d) (map (pair x) (seconds x))
    first_has x e = rw (sym e) (map_has (pair c) d (seconds c) there)

    pub pairs_first : (xs : List A) → Sooner (pair a b) (pair c d) (pairs pair seconds xs) → Sooner a c xs
    pairs_first [] p = absurd p
    pairs_first (x ∷ xs) p =
        elim (sooner_either (pair a b) (pair c d) (map (pair x) (seconds x)) (pairs pair seconds xs) p) [
          | inl q ↦ inl (first_is x q.0)
          | inr q ↦ inr (λ e. q.0 (first_has x e), pairs_first xs q.1)
        ]

    pub pairs_second : (xs : List A) → a ≡ c → Sooner (pair a b) (pair c d) (pairs pair seconds xs) → Sooner b d (seconds a)
    pairs_second [] e p = absurd p
    pairs_second (x ∷ xs) e p =
        elim (sooner_either (pair a b) (pair c d) (map (pair x) (seconds x)) (pairs pair seconds xs) p) [
          | inl q ↦ let same : a ≡ x = first_is x q.0 in subst (λ y. Sooner b d (seconds y)) (sym same) (sooner_second x a c b d (seconds x) (sym e ∙ same) q.1)
          | inr q ↦ pairs_second xs e q.1
        ]

-- numbers from k on
pub numbers_within : (i k n : ℕ) → Among i (range_with_len k n) → (k ≤ i) × (i < k + n)
numbers_within i k zero a = absurd a
numbers_within i k (suc n) (inl e) = omega arith
numbers_within i k (suc n) (inr a) = omega (arith, numbers_within i (k + 1) n a)

pub numbers_have : (i k n : ℕ) → k ≤ i → i < k + n → Among i (range_with_len k n)
numbers_have i k zero p q = absurd (omega arith)
numbers_have i k (suc n) p q = elim (cases_lt k i) [ inl l ↦ inr (numbers_have i (k + 1) n (omega arith) (omega arith)) | inr l ↦ inl (omega arith) ]

pub numbers_sooner : (i j k n : ℕ) → k ≤ j → Sooner i j (range_with_len k n) → i ≤ j
numbers_sooner i j k zero p a = absurd a
numbers_sooner i j k (suc n) p (inl e) = omega arith
numbers_sooner i j k (suc n) p (inr a) = let past : (j ≡ k → ⊥) = a.0 in numbers_sooner i j (k + 1) n (omega arith) a.1
