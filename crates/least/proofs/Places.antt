-- The first place at which numbers are the least, found by one place after the other. Assumes nothing.
use Rattle.std.proofs.Common.{◌≡◌, ℕ, ◌+◌, ◌<◌, ◌≤◌, ◌⊎◌, ap, inl, inr, arith}
use Rattle.std.proofs.lemmas.Bool.{cases_lt}
use Rattle.least.specs.Minima.{FirstBelow}

-- of the first n places, i is the first at which f is the least, and m is that least; before any place m is top, which f never reaches
abbrev pub FirstSoFar : (ℕ → ℕ) → ℕ → ℕ → ℕ → ℕ → Type 0
FirstSoFar f top n i m = ((n ≡ 0) × (m ≡ top)) ⊎ (FirstBelow f n i × (m ≡ f i))

pub so_far_lower : (f : ℕ → ℕ) (top n i m v : ℕ) → FirstSoFar f top n i m → v ≡ f n → v < m → FirstSoFar f top (n + 1) n v
so_far_lower f top n i m v (inl start) is less =
    inr ((omega arith, λ j h. omega (arith, ap f (let e : j ≡ n = omega (arith, start.0) in e)), λ j h. absurd (omega (arith, start.0))), is)
so_far_lower f top n i m v (inr found) is less =
    let under : (j : ℕ) → j < n → f n < f j = λ j h. omega (arith, found.0.1 j h, found.1) in
    inr ((omega arith, λ j h. elim (cases_lt j n) [ inl p ↦ omega (arith, under j p) | inr p ↦ omega (arith, ap f (let e : j ≡ n = omega arith in e)) ], under), is)

pub so_far_kept : (f : ℕ → ℕ) (top n i m v : ℕ) → FirstSoFar f top n i m → v ≡ f n → v < top → m ≤ v → FirstSoFar f top (n + 1) i m
so_far_kept f top n i m v (inl start) is fits more = absurd (omega (arith, start.1))
so_far_kept f top n i m v (inr found) is fits more =
    inr (
      (
        omega (arith, found.0.0),
        λ j h. elim (cases_lt j n) [ inl p ↦ omega (arith, found.0.1 j p) | inr p ↦ omega (arith, found.1, ap f (let e : j ≡ n = omega arith in e)) ],
        found.0.2,
      ),
      found.1,
    )

pub so_far_all : (f : ℕ → ℕ) (top n i m : ℕ) → FirstSoFar f top n i m → 0 < n → FirstBelow f n i
so_far_all f top n i m (inl start) some = absurd (omega (arith, start.0))
so_far_all f top n i m (inr found) some = found.0
