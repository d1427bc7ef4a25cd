-- What the two passes have done, turn by turn, and both of them together. Assumes nothing.
use Rattle.std.proofs.Common.{◌≡◌, ◌≢◌, ℕ, ◌+◌, ◌-◌, ◌*◌, ◌<◌, ◌≤◌, ◌⊎◌, min, List, length, get_or, set, refl, ap, ◌∙◌, inl, inr, arith}
use Rattle.std.proofs.Math.Nat.{mul-add, mul-le-mul_left}
use Rattle.std.specs.List.Sorted.{IsStrictlyIncreasing}
use Rattle.std.proofs.lemmas.Bool.{cases_lt, cases_eq}
use Rattle.std.proofs.lemmas.List.{get_or-set_same, get_or-set_other}
use Rattle.taps.specs.Readings.{apart}
use Rattle.shift.specs.Shift.{reached, Shifted, UpTo, FromOn, Risen, Fallen}
use Rattle.shift.proofs.Turns.{rising_le, OnTheWay, LeastReached, alone, stay, turn}

module _ (c : ℕ) (ts old : List ℕ) where
  -- each place that is done has the least of those that it may be reached from, and each that is left what it had
  abbrev pub Passed : (ℕ → ℕ → Type 0) → (ℕ → Type 0) → (ℕ → Type 0) → List ℕ → Type 0
  Passed From Done Rest row =
      (k : ℕ) → k < length old → (Done k → LeastReached c ts old k (From k) (get_or row k 0)) × (Rest k → get_or row k 0 ≡ get_or old k 0)

  -- one turn, at the place i, which is reached from j besides
  passed_more : (From : ℕ → ℕ → Type 0) (Done Rest More Fewer : ℕ → Type 0) (row : List ℕ) (i j d m : ℕ) → Passed From Done Rest row → length row ≡ length old →
      i < length old → Rest i → j < length old → Done j →
      ((t : ℕ) → From j t → OnTheWay (get_or ts i 0) (get_or ts j 0) (get_or ts t 0) × From i t) → From i i → ((t : ℕ) → From i t → (t ≡ i) ⊎ From j t) →
      ((k : ℕ) → More k → (k ≡ i) ⊎ Done k) → ((k : ℕ) → Fewer k → (k ≢ i) × Rest k) →
      apart (get_or ts i 0) (get_or ts j 0) ≡ d → m ≡ min (get_or row i 0) (get_or row j 0 + c * d) → Passed From More Fewer (set row i m)
  passed_more From Done Rest More Fewer row i j d m old-done size hi rest hj done beyond own fewer more left step is k h =
      let at-i : LeastReached c ts old i (From i) m =
      turn c ts old i j (From j) (From i) (get_or row j 0) m ((old-done j hj).0 done) (λ t p. (beyond t p).0) (λ t p. (beyond t p).1) own fewer
      (omega (arith, is, (old-done i hi).1 rest, ap (λ n. c * n) step)) in
      let inside : i < length row = omega arith in (
        λ p.
            elim (cases_eq k i) [
              | inl e ↦ rw (e, get_or-set_same) at-i
              | inr n ↦ rw get_or-set_other (elim (more k p) [ inl e ↦ absurd (n e) | inr q ↦ (old-done k h).0 q ])
            ],
        λ p. get_or-set_other row i k m 0 (left k p).0 ∙ (old-done k h).1 (left k p).1,
      )

  -- up: the places below s are done; down: those from s - 1 on
  abbrev pub Rising : List ℕ → ℕ → Type 0
  Rising row s = Passed UpTo (λ k. k < s) (λ k. s ≤ k) row

  abbrev pub Falling : List ℕ → ℕ → Type 0
  Falling row s = Passed (FromOn (length old)) (λ k. s ≤ k + 1) (λ k. k + 1 < s) row

  pub rise_start : Rising old 1
  rise_start k h = (λ p. alone c ts old k (UpTo k) (omega arith) (λ t q. omega arith), λ p. refl)

  pub fall_start : Falling old (length old)
  fall_start k h = (λ p. alone c ts old k (FromOn (length old) k) (omega arith, h) (λ t q. omega (arith, q.0, q.1)), λ p. refl)

  module _ (up : IsStrictlyIncreasing ts) (size : length old ≡ length ts) where
    pub rise_more : (row : List ℕ) (i m : ℕ) → length row ≡ length old → 0 < i → i < length old →
        m ≡ min (get_or row i 0) (get_or row (i - 1) 0 + c * (get_or ts i 0 - get_or ts (i - 1) 0)) → Rising row i → Rising (set row i m) (i + 1)
    rise_more row i m long low high is done =
        let next : get_or ts (i - 1) 0 ≤ get_or ts i 0 = rising_le ts up (i - 1) i (omega arith) (omega arith) in
        passed_more UpTo (λ k. k < i) (λ k. i ≤ k) (λ k. k < i + 1) (λ k. i + 1 ≤ k) row i (i - 1) (get_or ts i 0 - get_or ts (i - 1) 0) m done long
        high (omega arith) (omega arith) (omega arith)
        (λ t p. (inr (rising_le ts up t (i - 1) p (omega arith), next), omega arith)) (omega arith)
        (λ t p. elim (cases_lt t i) [ inl q ↦ inr (omega arith) | inr q ↦ inl (omega arith) ])
        (λ k p. elim (cases_lt k i) [ inl q ↦ inr q | inr q ↦ inl (omega arith) ])
        (λ k p. (λ e. omega arith, omega arith)) (omega arith) is

    pub fall_more : (row : List ℕ) (s m : ℕ) → length row ≡ length old → 1 < s → s ≤ length old →
        m ≡ min (get_or row (s - 1 - 1) 0) (get_or row (s - 1) 0 + c * (get_or ts (s - 1) 0 - get_or ts (s - 1 - 1) 0)) → Falling row s → Falling (set row (s - 1 - 1) m) (s - 1)
    fall_more row s m long low high is done =
        let below : get_or ts (s - 1 - 1) 0 ≤ get_or ts (s - 1) 0 = rising_le ts up (s - 1 - 1) (s - 1) (omega arith) (omega arith) in
        passed_more (FromOn (length old)) (λ k. s ≤ k + 1) (λ k. k + 1 < s) (λ k. s - 1 ≤ k + 1) (λ k. k + 1 < s - 1) row (s - 1 - 1) (s - 1)
        (get_or ts (s - 1) 0 - get_or ts (s - 1 - 1) 0) m done long (omega arith) (omega arith) (omega arith) (omega arith)
        (λ t p. (inl (below, rising_le ts up (s - 1) t p.0 (omega (arith, p.1))), (omega (arith, p.0), p.1))) (omega arith, omega arith)
        (λ t p. elim (cases_lt (s - 1 - 1) t) [ inl q ↦ inr (omega arith, p.1) | inr q ↦ inl (omega (arith, p.0)) ])
        (λ k p. elim (cases_lt (s - 1 - 1) k) [ inl q ↦ inr (omega arith) | inr q ↦ inl (omega arith) ])
        (λ k p. (λ e. omega arith, omega arith)) (omega arith) is

  -- by way of u it is no nearer
  no_nearer : (a b u : ℕ) → c * apart a b ≤ c * apart u b + c * apart a u
  no_nearer a b u =
      let e : apart a b ≤ apart u b + apart a u = omega arith in
      omega (arith, mul-le-mul_left c e, mul-add c (apart u b) (apart a u))

  -- THE TWO PASSES: what is reached from above, of what was reached from below, is reached from anywhere
  module _ (mid new : List ℕ) (risen : Risen c ts old mid) (fallen : Fallen c ts mid new) (same : length mid ≡ length old) (long : length new ≡ length old) where
    bound : (s t : ℕ) → s < length old → t < length old → get_or new s 0 ≤ reached c ts old s t
    bound s t hs ht =
        let down = (fallen s (omega arith)).1 in
        elim (cases_lt t s) [
          | inl p ↦
              omega (
                arith,
                down (reached c ts mid s s) (s, (omega arith, omega arith), refl),
                stay c ts mid s,
                (risen s (omega arith)).1 (reached c ts old s t) (t, omega arith, refl),
              )
          | inr p ↦
              omega (
                arith,
                down (reached c ts mid s t) (t, (p, omega arith), refl),
                (risen t (omega arith)).1 (reached c ts old t t) (t, omega arith, refl),
                stay c ts old t,
              )
        ]

    pub two_passes : Shifted c ts old new
    two_passes s h =
        let above = (fallen s h).0 in
        let u : ℕ = above.0 in
        let below = (risen u (omega (arith, above.1.1))).0 in
        let t : ℕ = below.0 in
        let ht : t < length old = omega (arith, below.1, above.1.1) in
        let hs : s < length old = omega arith in (
          (t, ht, omega (arith, bound s t hs ht, above.2, below.2, no_nearer (get_or ts s 0) (get_or ts t 0) (get_or ts u 0))),
          λ v p. omega (arith, bound s p.0 hs p.1, p.2),
        )
