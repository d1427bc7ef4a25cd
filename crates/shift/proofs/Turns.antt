-- One turn of a pass: a place is reached from its neighbour, which has the least of all on its side. Assumes nothing.
use Rattle.std.proofs.Common.{◌≡◌, ℕ, ◌+◌, ◌*◌, ◌<◌, ◌≤◌, ◌⊎◌, min, List, length, get_or, Some, sym, refl, ap, inl, inr, mul-zero, arith}
use Rattle.std.proofs.Math.Nat.{mul-add}
use Rattle.std.specs.List.Sorted.{IsStrictlyIncreasing}
use Rattle.std.proofs.lemmas.Bool.{cases_lt}
use Rattle.std.proofs.lemmas.List.Kept.{AllPairs-from_increasing}
use Rattle.least.specs.Minima.{Least}
use Rattle.least.proofs.Minimal.{least_next}
use Rattle.taps.specs.Readings.{apart}
use Rattle.shift.specs.Shift.{reached, ReachedFrom}

-- of tempi that rise a later one is no less
pub rising_le : (ts : List ℕ) → IsStrictlyIncreasing ts → (i j : ℕ) → i ≤ j → j < length ts → get_or ts i 0 ≤ get_or ts j 0
rising_le ts up i j h l =
    elim (cases_lt i j) [
      | inl p ↦ omega (arith, AllPairs-from_increasing ts up i j 0 p l)
      | inr p ↦ let e : i ≡ j = omega arith in omega (arith, ap (λ k. get_or ts k 0) e)
    ]

-- b lies on the way from a to x
abbrev pub OnTheWay : ℕ → ℕ → ℕ → Type 0
OnTheWay a b x = ((a ≤ b) × (b ≤ x)) ⊎ ((x ≤ b) × (b ≤ a))

apart_by : (a b x : ℕ) → OnTheWay a b x → apart a x ≡ apart b x + apart a b
apart_by a b x (inl h) = omega arith
apart_by a b x (inr h) = omega arith

module _ (c : ℕ) (ts old : List ℕ) where
  -- to stay costs nothing
  pub stay : (s : ℕ) → reached c ts old s s ≡ get_or old s 0
  stay s = let e : apart (get_or ts s 0) (get_or ts s 0) ≡ 0 = omega arith in omega (arith, ap (λ n. c * n) e, mul-zero c)

  abbrev pub LeastReached : ℕ → (ℕ → Type 0) → ℕ → Type 0
  LeastReached s From m = Least (ReachedFrom c ts old s From) (Some m)

  -- so a least to which staying belongs is no more than that
  pub at_most_own : (s : ℕ) (From : ℕ → Type 0) (m : ℕ) → From s → LeastReached s From m → m ≤ get_or old s 0
  at_most_own s From m own least = omega (arith, least.1 (reached c ts old s s) (s, own, refl), stay s)

  -- where there is nothing else, it is that
  pub alone : (s : ℕ) (From : ℕ → Type 0) → From s → ((t : ℕ) → From t → t ≡ s) → LeastReached s From (get_or old s 0)
  alone s From own one = (
    (s, own, sym (stay s)),
    λ v h. omega (arith, ap (reached c ts old s) (one h.0 h.1), stay s, h.2),
  )

  -- the place i is reached from j, by way of which all places beyond j are reached
  pub turn : (i j : ℕ) (Beyond From : ℕ → Type 0) (r m : ℕ) → LeastReached j Beyond r → ((t : ℕ) → Beyond t → OnTheWay (get_or ts i 0) (get_or ts j 0) (get_or ts t 0)) →
      ((t : ℕ) → Beyond t → From t) → From i → ((t : ℕ) → From t → (t ≡ i) ⊎ Beyond t) →
      m ≡ min (get_or old i 0) (r + c * apart (get_or ts i 0) (get_or ts j 0)) → LeastReached i From m
  turn i j Beyond From r m least between wider own fewer is =
      least_next Beyond From (reached c ts old j) (reached c ts old i) i (c * apart (get_or ts i 0) (get_or ts j 0)) r m least
      (λ t p.
      omega (
        arith,
        ap (λ n. c * n) (apart_by (get_or ts i 0) (get_or ts j 0) (get_or ts t 0) (between t p)),
        mul-add c (apart (get_or ts j 0) (get_or ts t 0)) (apart (get_or ts i 0) (get_or ts j 0)),
      ))
      wider own fewer (omega (arith, is, stay i))
