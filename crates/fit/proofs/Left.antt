-- The numbers that are left of a loop's, and those that pass a test. Assumes nothing.
use Rattle.std.proofs.Common.{◌≡◌, ℕ, suc, ◌+◌, ◌-◌, ◌<◌, ◌≤◌, Bool, true, false, List, [], ◌∷◌, filter, ap, ◌∙◌, arith}
use Rattle.std.proofs.lemmas.Bool.{cond-true, cond-false}
use Rattle.std.specs.List.{range_with_len}

-- the numbers from k on, of those below n
abbrev pub left : ℕ → ℕ → List ℕ
left n k = range_with_len k (n - k)

pub left_one : (n k : ℕ) → k < n → left n k ≡ k ∷ left n (k + 1)
left_one n k h = let size : n - k ≡ suc (n - (k + 1)) = omega arith in ap (range_with_len k) size

pub left_none : (n k : ℕ) → n ≤ k → left n k ≡ []
left_none n k h = let size : n - k ≡ 0 = omega arith in ap (range_with_len k) size

pub left_all : (n : ℕ) → left n 0 ≡ range_with_len 0 n
left_all n = let size : n - 0 ≡ n = omega arith in ap (range_with_len 0) size

pub passing : (p : ℕ → Bool) (n k : ℕ) → k < n → p k ≡ true → filter p (left n k) ≡ k ∷ filter p (left n (k + 1))
passing p n k h e = ap (filter p) (left_one n k h) ∙ cond-true (p k) (k ∷ filter p (left n (k + 1))) (filter p (left n (k + 1))) e

pub failing : (p : ℕ → Bool) (n k : ℕ) → k < n → p k ≡ false → filter p (left n k) ≡ filter p (left n (k + 1))
failing p n k h e = ap (filter p) (left_one n k h) ∙ cond-false (p k) (k ∷ filter p (left n (k + 1))) (filter p (left n (k + 1))) e
