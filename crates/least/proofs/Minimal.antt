-- Least costs and first members of lists: a bound that is reached is the only one, and the first member that passes a test is met first. Assumes nothing.
use Rattle.std.proofs.Common.{◌≡◌, ℕ, ◌+◌, ◌≤◌, min, Bool, true, false, cond, ◌⊎◌, List, [], ◌∷◌, ◌++◌, Some, None, Option, sym, refl, ap, ◌∙◌, subst, inl, inr, arith}
use Rattle.std.specs.Option.{option_or, MatchOption}
use Rattle.std.proofs.lemmas.Bool.{both_ways, cases_Bool, cases_lt, cond-false, cond-true, eq-eqb, eqb-true}
use Rattle.std.proofs.lemmas.List.Folds.{find-append}
use Rattle.std.proofs.lemmas.Option.{none-some}
use Rattle.least.specs.Minima.{Least, NoMore, lower, plus, both, hits, over, first, and_then, cheapest, Among, Sooner}

-- ---- the order of costs

-- a cost that is there, and at most v
abbrev pub Within : Option ℕ → ℕ → Type 0
Within m v = (u : ℕ) × (m ≡ Some u) × (u ≤ v)

pub within_more : (m : Option ℕ) (u v : ℕ) → Within m u → u ≤ v → Within m v
within_more m u v w h = (w.0, w.1, omega (arith, w.2))

pub no_more_from : (m n : Option ℕ) → ((v : ℕ) → n ≡ Some v → Within m v) → NoMore m n
no_more_from m None h = tt
no_more_from None (Some n) h = none-some (h n refl).0 (h n refl).1
no_more_from (Some m) (Some n) h = let r = h n refl in let e : m ≡ r.0 = cc r.1 in omega (arith, r.2)

pub no_more_some : (m n : Option ℕ) (v : ℕ) → NoMore m n → n ≡ Some v → Within m v
no_more_some m None v h e = absurd (none-some v e)
no_more_some None (Some n) v h e = absurd h
no_more_some (Some m) (Some n) v h e = let f : n ≡ v = cc in (m, refl, omega arith)

no_more_both : (m n : Option ℕ) → NoMore m n → NoMore n m → m ≡ n
no_more_both None None p q = refl
no_more_both None (Some n) p q = absurd p
no_more_both (Some m) None p q = absurd q
no_more_both (Some m) (Some n) p q = ap Some (omega arith)

pub plus_some : (x : ℕ) (n : Option ℕ) (v : ℕ) → plus x n ≡ Some v → (u : ℕ) × (n ≡ Some u) × (v ≡ x + u)
plus_some x None v e = absurd (none-some v e)
plus_some x (Some n) v e = (n, refl, cc)

-- where there is no cost with x more, there is none
pub plus_none : (x : ℕ) (n : Option ℕ) → NoMore None (plus x n) → n ≡ None
plus_none x None h = refl
plus_none x (Some n) h = absurd h

pub no_more_plus : (x : ℕ) (m n : Option ℕ) → x ≡ 0 → NoMore m (plus x n) → NoMore m n
no_more_plus x m None e h = tt
no_more_plus x None (Some n) e h = h
no_more_plus x (Some m) (Some n) e h = omega arith

-- ---- what is the least
pub least_found : (P : ℕ → Type 0) (m : Option ℕ) (v : ℕ) → Least P m → m ≡ Some v → P v
least_found P None v l e = absurd (none-some v e)
least_found P (Some m) v l e = let f : m ≡ v = cc in rw f at l.0

pub least_within : (P : ℕ → Type 0) (m : Option ℕ) (v : ℕ) → Least P m → P v → Within m v
least_within P None v l p = absurd (l v p)
least_within P (Some m) v l p = (m, refl, l.1 v p)

pub least_from : (P : ℕ → Type 0) (m : Option ℕ) → ((v : ℕ) → m ≡ Some v → P v) → ((v : ℕ) → P v → Within m v) → Least P m
least_from P None found within = λ v p. none-some (within v p).0 (within v p).1
least_from P (Some m) found within = (found m refl, λ v p. let w = within v p in let e : m ≡ w.0 = cc w.1 in omega (arith, w.2))

-- each number of Q has one of P that is no more: so have their least
least_by : (P Q : ℕ → Type 0) (m n : Option ℕ) → Least P m → Least Q n → ((v : ℕ) → Q v → (u : ℕ) × P u × (u ≤ v)) → NoMore m n
least_by P Q m n p q h =
    no_more_from m n (λ v e. let r = h v (least_found Q n v q e) in within_more m r.0 v (least_within P m r.0 p r.1) r.2)

-- there is one least, in whichever order it is found
pub least_same : (P Q : ℕ → Type 0) (m n : Option ℕ) → Least P m → Least Q n → ((v : ℕ) → P v → (u : ℕ) × Q u × (u ≤ v)) → ((v : ℕ) → Q v → (u : ℕ) × P u × (u ≤ v)) → m ≡ n
least_same P Q m n p q to back = no_more_both m n (least_by P Q m n p q back) (least_by Q P n m q p to)

-- the same number is the least of more numbers, if none of them is below all of the fewer
pub least_more : (P Q : ℕ → Type 0) (m : Option ℕ) → Least P m → ((v : ℕ) → P v → Q v) → ((v : ℕ) → Q v → (u : ℕ) × P u × (u ≤ v)) → Least Q m
least_more P Q m p to back =
    least_from Q m (λ v e. to v (least_found P m v p e)) (λ v q. let h = back v q in within_more m h.0 v (least_within P m h.0 p h.1) h.2)

-- where there is a test, the least is there if the test holds
pub cond_least : (P : ℕ → Type 0) (t : Bool) (m : Option ℕ) → Least P m → Least (λ v. (t ≡ true) × P v) (cond t m None)
cond_least P true m p = least_more P _ m p (λ v h. (refl, h)) (λ v h. (v, h.1, omega arith))
cond_least P false m p = λ v h. both_ways false refl h.0

pub both_least : (P Q : ℕ → Type 0) (m n : Option ℕ) → Least P m → Least Q n → Least (λ v. (a : ℕ) × (b : ℕ) × P a × Q b × (v ≡ a + b)) (both m n)
both_least P Q None n p q = λ v h. p h.0 h.2
both_least P Q (Some m) None p q = λ v h. q h.1 h.3
both_least P Q (Some m) (Some n) p q = ((m, n, p.0, q.0, refl), λ v h. omega (arith, p.1 h.0 h.2, q.1 h.1 h.3, h.4))

pub plus_least : (x : ℕ) (n : Option ℕ) → Least (λ v. (a : ℕ) × (n ≡ Some a) × (v ≡ x + a)) (plus x n)
plus_least x None = λ v h. none-some h.0 h.1
plus_least x (Some n) = ((n, refl, refl), λ v h. let e : n ≡ h.0 = cc h.1 in omega (arith, h.2))

-- the least of g over Q, if Q is P and one place i more, and g is f and d more on P
pub least_next : (P Q : ℕ → Type 0) (f g : ℕ → ℕ) (i d r m : ℕ) → Least (λ v. (t : ℕ) × P t × (v ≡ f t)) (Some r) → ((t : ℕ) → P t → g t ≡ f t + d) →
    ((t : ℕ) → P t → Q t) → Q i → ((t : ℕ) → Q t → (t ≡ i) ⊎ P t) → m ≡ min (g i) (r + d) → Least (λ v. (t : ℕ) × Q t × (v ≡ g t)) (Some m)
least_next P Q f g i d r m old more wider own fewer is =
    let t = old.0.0 in (
      elim (cases_lt (g i) (r + d)) [
        | inl l ↦ (i, own, omega arith)
        | inr l ↦ (t, wider t old.0.1, omega (arith, old.0.2, more t old.0.1))
      ],
      λ v h.
          elim (fewer h.0 h.1) [
            | inl e ↦ omega (arith, ap g e, h.2)
            | inr p ↦ omega (arith, old.1 (f h.0) (h.0, p, refl), more h.0 p, h.2)
          ],
    )

-- ---- the least of a list
lower_left : (m n : Option ℕ) → NoMore (lower m n) m
lower_left None n = tt
lower_left (Some m) None = omega arith
lower_left (Some m) (Some n) = omega arith

lower_right : (m n o : Option ℕ) → NoMore n o → NoMore (lower m n) o
lower_right m n None h = tt
lower_right None n (Some o) h = h
lower_right (Some m) None (Some o) h = absurd h
lower_right (Some m) (Some n) (Some o) h = omega arith

lower_one : (m n : Option ℕ) (v : ℕ) → lower m n ≡ Some v → (m ≡ Some v) ⊎ (n ≡ Some v)
lower_one None n v e = inr e
lower_one (Some m) None v e = inl e
lower_one (Some m) (Some n) v e =
    let f : min m n ≡ v = cc in
    elim (cases_lt m n) [ inl l ↦ inl (ap Some (omega arith)) | inr l ↦ inr (ap Some (omega arith)) ]

pub over_under : {A : Type 0} (f : A → Option ℕ) (x : A) (xs : List A) → Among x xs → NoMore (over f xs) (f x)
over_under f x [] a = absurd a
over_under f x (y ∷ ys) (inl e) = rw e (lower_left (f y) (over f ys))
over_under f x (y ∷ ys) (inr a) = lower_right (f y) (over f ys) (f x) (over_under f x ys a)

pub over_found : {A : Type 0} (f : A → Option ℕ) (xs : List A) (v : ℕ) → over f xs ≡ Some v → (x : A) × Among x xs × (f x ≡ Some v)
over_found f [] v e = absurd (none-some v e)
over_found f (y ∷ ys) v e =
    elim (lower_one (f y) (over f ys) v e) [
      | inl p ↦ (y, inl refl, p)
      | inr p ↦ let r = over_found f ys v p in (r.0, inr r.1, r.2)
    ]

-- where each member has the least of its own numbers, the list has the least of all of them
pub over_least : {A : Type 0} (f : A → Option ℕ) (xs : List A) (P : A → ℕ → Type 0) → ((x : A) → Among x xs → Least (P x) (f x)) →
    Least (λ v. (x : A) × Among x xs × P x v) (over f xs)
over_least f xs P each =
    least_from _ (over f xs)
    (λ v e. let r = over_found f xs v e in (r.0, r.1, least_found (P r.0) (f r.0) v (each r.0 r.1) r.2))
    (λ v h.
    let x = h.0 in
    let u = least_within (P x) (f x) v (each x h.1) h.2 in
    within_more (over f xs) u.0 v (no_more_some (over f xs) (f x) u.0 (over_under f x xs h.1) u.1) u.2)

-- where each member is one number, it is the least of these
pub over_numbers : {A : Type 0} (f : A → ℕ) (xs : List A) → Least (λ v. (x : A) × Among x xs × (v ≡ f x)) (over (λ x. Some (f x)) xs)
over_numbers f xs = over_least (λ x. Some (f x)) xs (λ x v. v ≡ f x) (λ x a. (refl, λ v e. omega arith))

-- ---- the first of a list
pub record First {A : Type 0} (t : A → Bool) (xs : List A) (x : A) : Type 0 where
  pub is : first t xs ≡ Some x
  pub among : Among x xs
  pub passes : t x ≡ true
  pub sooner : (y : A) → t y ≡ true → Among y xs → Sooner x y xs

first_found : {A : Type 0} (t : A → Bool) (xs : List A) (y : A) → Among y xs → t y ≡ true → (x : A) × First t xs x
first_found t [] y a h = absurd a
first_found {A = A} t (z ∷ zs) y a h =
    elim (cases_Bool (t z)) [
      | inl p ↦ (z, record { is = cond-true (t z) (Some z) (first t zs) p; among = inl refl; passes = p; sooner = λ w q b. inl refl })
      | inr p ↦
          let not-here : (w : A) → t w ≡ true → w ≡ z → ⊥ = λ w q e. both_ways (t z) p (ap t (sym e) ∙ q) in
          let r = first_found t zs y (elim a [ inl e ↦ absurd (not-here y h e) | inr b ↦ b ]) h in (
            r.0,
            record {
              is = cond-false (t z) (Some z) (first t zs) p ∙ r.1.is;
              among = inr r.1.among;
              passes = r.1.passes;
              sooner = λ w q b. inr (not-here w q, elim b [ inl e ↦ absurd (not-here w q e) | inr d ↦ r.1.sooner w q d ]);
            },
          )
    ]

pub first_from : {A : Type 0} (t : A → Bool) (x : A) (xs : List A) → first t xs ≡ Some x → Among x xs × (t x ≡ true)
first_from t x [] e = absurd (none-some x e)
first_from t x (y ∷ ys) e =
    elim (cases_Bool (t y)) [
      | inl p ↦ let here : Some y ≡ Some x = sym (cond-true (t y) (Some y) (first t ys) p) ∙ e in let same : x ≡ y = cc in (inl same, rw same p)
      | inr p ↦ let r = first_from t x ys (sym (cond-false (t y) (Some y) (first t ys) p) ∙ e) in (inr r.0, r.1)
    ]

-- what is found is the first, and where nothing is found nothing passes
pub first_is : {A : Type 0} (t : A → Bool) (xs : List A) (o : Option A) → first t xs ≡ o → MatchOption o ((y : A) → Among y xs → t y ≡ false) (First t xs)
first_is t xs None e =
    λ y a. elim (cases_Bool (t y)) [ inl p ↦ let f = first_found t xs y a p in absurd (none-some f.0 (sym e ∙ f.1.is)) | inr p ↦ p ]
first_is t xs (Some x) e =
    let from = first_from t x xs e in
    let f = first_found t xs x from.0 from.1 in
    let same : Some f.0 ≡ Some x = sym f.1.is ∙ e in
    subst (First t xs) (cc) f.1

-- where every member leads to nothing, so does the first that passes
pub first_to_none : {A B : Type 0} (t : A → Bool) (xs : List A) (k : A → Option B) → ((x : A) → Among x xs → k x ≡ None) → and_then (first t xs) k ≡ None
first_to_none t [] k none = refl
first_to_none t (x ∷ xs) k none =
    elim (cases_Bool (t x)) [
      | inl p ↦ ap (λ o. and_then o k) (cond-true (t x) (Some x) (first t xs) p) ∙ none x (inl refl)
      | inr p ↦ ap (λ o. and_then o k) (cond-false (t x) (Some x) (first t xs) p) ∙ first_to_none t xs k (λ y a. none y (inr a))
    ]

-- two tests that say the same of each member
pub first_same : {A : Type 0} (t u : A → Bool) (xs : List A) → ((x : A) → Among x xs → t x ≡ u x) → first t xs ≡ first u xs
first_same t u [] e = refl
first_same t u (x ∷ xs) e = (λ i. cond (e x (inl refl) i) (Some x) (first_same t u xs (λ y a. e y (inr a)) i))

-- `first` is word for word the library's `find`
pub first_append : {A : Type 0} (t : A → Bool) (xs ys : List A) → first t (xs ++ ys) ≡ option_or (first t xs) (first t ys)
first_append = find-append

-- ---- the first of a list that costs the least
hits_is : (m : ℕ) (n : Option ℕ) → hits m n ≡ true → n ≡ Some m
hits_is m None h = absurd (both_ways false refl h)
hits_is m (Some n) h = ap Some (eqb-true n m h)

is_hit : (m : ℕ) (n : Option ℕ) → n ≡ Some m → hits m n ≡ true
is_hit m n e = rw e (eq-eqb m m refl)

pub record Cheapest {A : Type 0} (f : A → Option ℕ) (xs : List A) (m : ℕ) (x : A) : Type 0 where
  pub is : cheapest f xs ≡ Some x
  pub among : Among x xs
  pub costs : f x ≡ Some m
  pub sooner : (y : A) → f y ≡ Some m → Among y xs → Sooner x y xs

pub cheapest_found : {A : Type 0} (f : A → Option ℕ) (xs : List A) (m : ℕ) → over f xs ≡ Some m → (x : A) × Cheapest f xs m x
cheapest_found f xs m e =
    let y = over_found f xs m e in
    let r = first_found (λ x. hits m (f x)) xs y.0 y.1 (is_hit m (f y.0) y.2) in (
      r.0,
      record {
        is = ap (λ o. and_then o (λ v. first (λ x. hits v (f x)) xs)) e ∙ r.1.is;
        among = r.1.among;
        costs = hits_is m (f r.0) r.1.passes;
        sooner = λ z q a. r.1.sooner z (is_hit m (f z) q) a;
      },
    )

pub cheapest_none : {A : Type 0} (f : A → Option ℕ) (xs : List A) → over f xs ≡ None → cheapest f xs ≡ None
cheapest_none f xs e = ap (λ o. and_then o (λ v. first (λ x. hits v (f x)) xs)) e

-- of two members that are met before each other there is one
pub sooner_both : {A : Type 0} (x y : A) (xs : List A) → Sooner x y xs → Sooner y x xs → x ≡ y
sooner_both x y [] p q = absurd p
sooner_both x y (z ∷ zs) (inl p) (inl q) = p ∙ sym q
sooner_both x y (z ∷ zs) (inl p) (inr q) = absurd (q.0 p)
sooner_both x y (z ∷ zs) (inr p) (inl q) = absurd (p.0 q)
sooner_both x y (z ∷ zs) (inr p) (inr q) = sooner_both x y zs p.1 q.1
