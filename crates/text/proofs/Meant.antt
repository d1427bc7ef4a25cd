-- Which read is meant by ticks and a tempo. Assumes nothing.
use Rattle.std.proofs.Common.{◌≡◌, ◌≢◌, ℕ, zero, suc, ◌<◌, ◌≤◌, true, false, eqb, ltb, List, [], ◌∷◌, length, get_or, Some, None, Option, inl, inr, refl, sym, ◌∙◌, subst, arith}
use Rattle.std.specs.List.{position, position_or_len}
use Rattle.std.proofs.lemmas.Bool.{cases_Bool, cond-true, cond-false, eqb-true, eqb-false, eq-eqb, ltb-true, ltb-false, lt-ltb}
use Rattle.taps.specs.Readings.{Book, kind_at}
use Rattle.text.specs.Notes.{lighter, lightest_of}
use Rattle.text.specs.Laws.{Meant}

-- of those below suc n one is below n, or n itself
below_or_last : (P : ℕ → Type 0) (n : ℕ) → ((k : ℕ) → k < n → P k) → P n → (k : ℕ) → k < suc n → P k
below_or_last P n below last k h =
    elim (cases_Bool (eqb k n)) [
      | inl e ↦ subst P (sym (eqb-true k n e)) last
      | inr e ↦ let other = eqb-false k n e in below k (omega arith)
    ]

-- where the kind k has so many ticks, the kind j weighs no more
abbrev NoLighter : Book → ℕ → ℕ → ℕ → Type 0
NoLighter b ticks j k = (kind_at b k).ticks ≡ ticks → (kind_at b j).weight ≤ (kind_at b k).weight

-- a kind of other ticks changes nothing
meant_passed : (b : Book) (ticks n : ℕ) (found : Option ℕ) → (kind_at b n).ticks ≢ ticks → Meant b ticks n found → Meant b ticks (suc n) found
meant_passed b ticks n None other m = below_or_last (λ k. (kind_at b k).ticks ≢ ticks) n m other
meant_passed b ticks n (Some j) other m = (omega (arith, m.0), m.1, below_or_last (NoLighter b ticks j) n m.2 (λ e. absurd (other e)), m.3)

-- one of the same ticks is the first, or stands against the one found
meant_met : (b : Book) (ticks n : ℕ) (found : Option ℕ) → (kind_at b n).ticks ≡ ticks → Meant b ticks n found → Meant b ticks (suc n) (lighter b found n)
meant_met b ticks n None e m = (omega arith, e, below_or_last (NoLighter b ticks n) n (λ k h same. absurd (m k h same)) (λ same. omega arith), λ k h same. absurd (m k h same))
meant_met b ticks n (Some j) e m =
    let test = ltb (kind_at b n).weight (kind_at b j).weight in
    elim (cases_Bool test) [
      | inl t ↦
          let less = ltb-true (kind_at b n).weight (kind_at b j).weight t in
          let heavier : (k : ℕ) → k < n → (kind_at b k).ticks ≡ ticks → (kind_at b n).weight < (kind_at b k).weight = λ k h same. omega (arith, less, m.2 k h same) in
          subst (Meant b ticks (suc n)) (sym (cond-true test (Some n) (Some j) t))
          (omega arith, e, below_or_last (NoLighter b ticks n) n (λ k h same. omega (arith, heavier k h same)) (λ same. omega arith), heavier)
      | inr t ↦
          let more = ltb-false (kind_at b n).weight (kind_at b j).weight t in
          subst (Meant b ticks (suc n)) (sym (cond-false test (Some n) (Some j) t)) (omega (arith, m.0), m.1, below_or_last (NoLighter b ticks j) n m.2 (λ same. more), m.3)
    ]

pub kind_meant : (b : Book) (ticks n : ℕ) → Meant b ticks n (lightest_of b ticks n)
kind_meant b ticks zero = λ k h e. absurd (omega arith)
kind_meant b ticks (suc n) =
    let found = lightest_of b ticks n in
    let test = eqb (kind_at b n).ticks ticks in
    elim (cases_Bool test) [
      | inl t ↦ subst (Meant b ticks (suc n)) (sym (cond-true test (lighter b found n) found t)) (meant_met b ticks n found (eqb-true (kind_at b n).ticks ticks t) (kind_meant b ticks n))
      | inr t ↦ subst (Meant b ticks (suc n)) (sym (cond-false test (lighter b found n) found t)) (meant_passed b ticks n found (eqb-false (kind_at b n).ticks ticks t) (kind_meant b ticks n))
    ]

-- so where a kind has so many ticks, one is found that weighs no more
pub kind_found : (b : Book) (ticks n k : ℕ) (found : Option ℕ) → Meant b ticks n found → k < n → (kind_at b k).ticks ≡ ticks →
    (j : ℕ) × (found ≡ Some j) × (j < n) × ((kind_at b j).ticks ≡ ticks) × ((kind_at b j).weight ≤ (kind_at b k).weight)
kind_found b ticks n k None m h e = absurd (m k h e)
kind_found b ticks n k (Some j) m h e = (j, refl, m.0, m.1, m.2 k h e)

-- a number that stands in a list has a first place there
abbrev First : ℕ → List ℕ → ℕ → Type 0
First v xs n = (n < length xs) × (get_or xs n 0 ≡ v)

first_here : (v x : ℕ) (xs : List ℕ) → eqb x v ≡ true → First v (x ∷ xs) (position_or_len (λ y. eqb y v) (x ∷ xs))
first_here v x xs t =
    let none : position_or_len (λ y. eqb y v) (x ∷ xs) ≡ 0 = rw t refl in
    subst (First v (x ∷ xs)) (sym none) (omega arith, eqb-true x v t)

first_later : (v x : ℕ) (xs : List ℕ) → eqb x v ≡ false → First v xs (position_or_len (λ y. eqb y v) xs) → First v (x ∷ xs) (position_or_len (λ y. eqb y v) (x ∷ xs))
first_later v x xs t f =
    let n = position_or_len (λ y. eqb y v) xs in
    let more : position_or_len (λ y. eqb y v) (x ∷ xs) ≡ suc n = rw t (omega arith) in
    subst (First v (x ∷ xs)) (sym more) (omega (arith, f.0), f.1)

first_place : (v : ℕ) (xs : List ℕ) (i : ℕ) → i < length xs → get_or xs i 0 ≡ v → First v xs (position_or_len (λ y. eqb y v) xs)
first_place v [] i h e = absurd (omega arith)
first_place v (x ∷ xs) zero h e = first_here v x xs (eq-eqb x v e)
first_place v (x ∷ xs) (suc i) h e =
    elim (cases_Bool (eqb x v)) [
      | inl t ↦ first_here v x xs t
      | inr t ↦ first_later v x xs t (first_place v xs i (omega (arith, h)) e)
    ]

pub place_found : (v : ℕ) (xs : List ℕ) (i : ℕ) → i < length xs → get_or xs i 0 ≡ v → (j : ℕ) × (position (λ x. eqb x v) xs ≡ Some j) × (j < length xs) × (get_or xs j 0 ≡ v)
place_found v xs i h e =
    let n = position_or_len (λ x. eqb x v) xs in
    let f = first_place v xs i h e in
    (n, cond-true (ltb n (length xs)) (Some n) None (lt-ltb n (length xs) f.0), f.0, f.1)

-- and no place that is found lies past the end
pub place_inside : (v : ℕ) (xs : List ℕ) (j : ℕ) → position (λ x. eqb x v) xs ≡ Some j → j < length xs
place_inside v xs j e =
    let n = position_or_len (λ x. eqb x v) xs in
    elim (cases_Bool (ltb n (length xs))) [
      | inl t ↦
          let same : Some n ≡ Some j = sym (cond-true (ltb n (length xs)) (Some n) None t) ∙ e in
          let less = ltb-true n (length xs) t in
          let is : n ≡ j = cc in
          omega (arith, less, is)
      | inr t ↦ let bad : None ≡ Some j = sym (cond-false (ltb n (length xs)) (Some n) None t) ∙ e in cc
    ]
