-- Numbers of so many bytes, over any width; and lists of bytes, one by one.
use Rattle.std.proofs.Common.{◌≡◌, ℕ, zero, suc, ◌+◌, ◌/◌, ◌%◌, ◌^◌, ◌<◌, ◌≤◌, List, [], ◌∷◌, length, get_or, take, drop, sym, refl, ◌∙◌, arith}
use Rattle.std.proofs.lemmas.Grind.{common_steps}
use native.Mathlib.Nat.{add-mul-div_left, add-mul-mod_self_left, div-div-eq-div-mul}
use Rattle.std.proofs.lemmas.List.{drop_more}
use Rattle.octets.specs.Bytes.{two, four, eight, number, Bytes}

-- the n elements from the j-th on
abbrev pub spelled : ℕ → ℕ → List ℕ → List ℕ
spelled zero j bs = []
spelled (suc n) j bs = get_or bs j 0 ∷ spelled n (suc j) bs

pub part_spelled : (n j : ℕ) (bs : List ℕ) → j + n ≤ length bs → take n (drop j bs) ≡ spelled n j bs
part_spelled zero j bs h = refl
part_spelled (suc n) j bs h = grind (arith, common_steps, drop_more bs j 0 (omega arith), part_spelled n (suc j) bs (omega arith))

-- a list of so many bytes, one by one
pub list_spelled : (n : ℕ) (bs : List ℕ) → length bs ≡ n → bs ≡ spelled n 0 bs
list_spelled n bs size = grind (arith, common_steps, part_spelled n 0 bs)

-- a number in k bytes, the low one first
abbrev pub digits : ℕ → ℕ → List ℕ
digits zero n = []
digits (suc k) n = n % 256 ∷ digits k (n / 256)

four_digits : (n : ℕ) → digits 4 n ≡ four n
four_digits n = grind (arith, common_steps, div-div-eq-div-mul)

eight_digits : (n : ℕ) → digits 8 n ≡ eight n
eight_digits n = grind (arith, common_steps, div-div-eq-div-mul)

digits_number : (k : ℕ) (bs : List ℕ) → length bs ≡ k → Bytes bs → digits k (number bs) ≡ bs
digits_number zero [] size all = refl
digits_number zero (b ∷ bs) size all = absurd (omega arith)
digits_number (suc k) [] size all = absurd (omega arith)
digits_number (suc k) (b ∷ bs) size all =
    let rest = digits_number k bs (omega arith) (λ i. all (suc i)) in
    grind (arith, common_steps, all 0, rest, add-mul-mod_self_left b 256 (number bs), add-mul-div_left b (number bs))

-- at the widths of the formats: a number reads back, and bytes are written back
pub two_back : (n : ℕ) → n < 2 ^ 16 → number (two n) ≡ n
two_back n small = omega arith

pub four_back : (n : ℕ) → n < 2 ^ 32 → number (four n) ≡ n
four_back n small = omega arith

pub eight_back : (n : ℕ) → n < 2 ^ 64 → number (eight n) ≡ n
eight_back n small = omega arith

pub two_whole : (bs : List ℕ) → length bs ≡ 2 → Bytes bs → two (number bs) ≡ bs
two_whole bs size all = digits_number 2 bs size all

pub four_whole : (bs : List ℕ) → length bs ≡ 4 → Bytes bs → four (number bs) ≡ bs
four_whole bs size all = sym (four_digits (number bs)) ∙ digits_number 4 bs size all

pub eight_whole : (bs : List ℕ) → length bs ≡ 8 → Bytes bs → eight (number bs) ≡ bs
eight_whole bs size all = sym (eight_digits (number bs)) ∙ digits_number 8 bs size all
