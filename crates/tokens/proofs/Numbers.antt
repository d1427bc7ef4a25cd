-- The digits of a number, read again. Assumes nothing.
use Rattle.std.proofs.Common.{◌≡◌, ℕ, ◌+◌, ◌-◌, ◌*◌, ◌/◌, ◌%◌, ◌<◌, ◌&&◌, min, List, [], ◌∷◌, ◌++◌, Some, None, inl, inr, length, sym, ap, ◌∙◌, arith, nat_le}
use Rattle.std.specs.Prelude.{decimal}
use Rattle.std.proofs.lemmas.Bool.{cases_Bool, cond-true, cond-false}
use Rattle.std.proofs.lemmas.Bool.Decides.{nat_tests}
use Rattle.std.proofs.lemmas.Fmt.{decimal_by_steps, decimal_nonempty}
use Rattle.tokens.specs.Tokens.{digits_in, number_in}

-- a digit more at the end
digits_more : (n m d : ℕ) (ds : List ℕ) → d < 10 → digits_in n ds ≡ Some m → digits_in n (ds ++ (48 + d) ∷ []) ≡ Some (min (10 * m + d) 4294967295)
digits_more n m d [] h e = grind (arith, nat_tests)
digits_more n m d (c ∷ cs) h e =
    let digit = nat_le 48 c && nat_le c 57 in
    let next = min (10 * n + (c - 48)) 4294967295 in
    elim (cases_Bool digit) [
      | inl t ↦
          cond-true digit (digits_in next (cs ++ (48 + d) ∷ [])) None t
          ∙ digits_more next m d cs h (sym (cond-true digit (digits_in next cs) None t) ∙ e)
      | inr t ↦ let bad : None ≡ Some m = sym (cond-false digit (digits_in next cs) None t) ∙ e in grind arith
    ]

-- the digits of a number below 2 ^ 32
all_digits : (n : ℕ) → n < 4294967296 → digits_in 0 (decimal n) ≡ Some n
all_digits n h =
    decimal_by_steps (λ m ds. m < 4294967296 → digits_in 0 ds ≡ Some m) (λ m l h. grind (arith, nat_tests))
    (λ m ds l before h. digits_more 0 (m / 10) (m % 10) ds (omega arith) (before (omega arith)) ∙ ap Some (omega arith)) n (omega (arith, h)) h

pub number_reads : (n : ℕ) → n < 4294967296 → number_in (decimal n) ≡ Some n
number_reads n h = one (decimal n) (decimal_nonempty n (omega (arith, h))) (all_digits n h)
  where
    one : (ds : List ℕ) → 0 < length ds → digits_in 0 ds ≡ Some n → number_in ds ≡ Some n
    one [] some e = absurd (omega (arith, some))
    one (d ∷ ds) some e = e
