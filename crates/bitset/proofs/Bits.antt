-- The numbers of a set whose bits are those of one number, and of one that a bit is taken from; and the first number of a set. Assumes nothing.
use Rattle.std.proofs.Common.{◌≡◌, ℕ, ◌*◌, ◌^◌, ◌<◌, ◌≤◌, true, false, Option, Some, None, eq-eqb, not, ◌&&◌, bit_and, eqb, ap, ◌∙◌, inl, inr, arith}
use Rattle.std.specs.Option.{is_some, IfSome, MatchOption}
use Rattle.std.specs.Int.{bit_at, bit_not, trailing_zeros, w32}
use Rattle.std.specs.Int.Bits.{and_zero_r}
use Rattle.std.proofs.lemmas.Bool.{cases_lt, cases_eq}
use Rattle.std.proofs.lemmas.Bool.Decides.{nat_tests}
use Rattle.std.proofs.lemmas.Nat.{pow_pos}
use Rattle.std.proofs.lemmas.Nat.Bits.{bit_at-pow_same, bit_at-pow_other, bit_at-zero, bit_at_and, bit_at_not, bit_at_above, bit_at-lt, and_pow, bit_at-trailing_zeros}
use Rattle.bitset.specs.Members.{member}

-- m is the bit of i, if i is below 32, and else 0
abbrev pub Bit : ℕ → ℕ → Type 0
Bit i m = (i < 32 → m ≡ 2 ^ i) × (32 ≤ i → m ≡ 0)

pub bit_has : (i m j : ℕ) → Bit i m → j < 32 → member m j ≡ eqb j i
bit_has i m j h below =
    elim (cases_lt i 32) [
      | inl l ↦ elim (cases_eq j i) [
        | inl e ↦ let same = bit_at-pow_same i in grind (arith, nat_tests)
        | inr n ↦ let other = bit_at-pow_other i j n in grind (arith, nat_tests)
      ]
      | inr l ↦ let none = bit_at-zero j in grind (arith, nat_tests)
    ]

-- `n & m` tells whether i is in n
pub bit_tests : (i m n : ℕ) → Bit i m → n < 2 ^ 32 → not (eqb (bit_and n m) 0) ≡ member n i
bit_tests i m n h below =
    elim (cases_lt i 32) [
      | inl l ↦
          let is : bit_and n m ≡ bit_at n i * 2 ^ i = ap (bit_and n) (h.0 l) ∙ and_pow n i in
          let two = bit_at-lt n i in
          elim (cases_eq (bit_at n i) 0) [
            | inl e ↦ let none : bit_and n m ≡ 0 * 2 ^ i = is ∙ ap (λ b. b * 2 ^ i) e in grind (arith, nat_tests)
            | inr z ↦ let one : bit_at n i ≡ 1 = omega arith in let some : bit_and n m ≡ 1 * 2 ^ i = is ∙ ap (λ b. b * 2 ^ i) one in let more = pow_pos i in grind (arith, nat_tests)
          ]
      | inr l ↦
          let is : bit_and n m ≡ bit_and n 0 = ap (bit_and n) (h.1 l) in
          let none : bit_and n 0 ≡ 0 = and_zero_r n in
          let past = bit_at_above n 32 i below l in
          grind (arith, nat_tests)
    ]

-- `n & !m` has the numbers of n but i
pub bit_taken : (i m n j : ℕ) → Bit i m → m < 2 ^ 32 → n < 2 ^ 32 → member (bit_and n (bit_not w32 m)) j ≡ (member n j && not (eqb j i))
bit_taken i m n j h fits below =
    let split = bit_at_and n (bit_not w32 m) j in
    elim (cases_lt j 32) [
      | inl l ↦
          let flipped = bit_at_not w32 m j fits l in
          let one = bit_has i m j h l in
          let two = bit_at-lt n j in
          grind (arith, nat_tests)
      | inr l ↦ let past = bit_at_above n 32 j below l in grind (arith, nat_tests)
    ]

-- the lowest 1 of n stands for its first number, and where n is 0 it has none
pub lowest_first : (n : ℕ) (o : Option ℕ) → n < 2 ^ 32 → is_some o ≡ not (eqb n 0) → IfSome o (λ k. k ≡ trailing_zeros w32 n) →
    MatchOption o ((i : ℕ) → member n i ≡ false) (λ k. (k < 32) × (member n k ≡ true) × ((i : ℕ) → i < k → member n i ≡ false))
lowest_first n None below is e = λ i. let none = bit_at-zero i in let nothing : n ≡ 0 = grind (arith, nat_tests) in rw nothing (grind (arith, nat_tests))
lowest_first n (Some k) below is e =
    let found = bit_at-trailing_zeros w32 n (grind (arith, nat_tests)) below in
    rw e (found.0, eq-eqb _ _ found.1, λ i h. let none = found.2 i h in grind (arith, nat_tests))
