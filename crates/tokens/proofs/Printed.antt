-- Numbers that were printed, as words between blanks and within a line. Assumes nothing.
use Rattle.std.proofs.Common.{◌≡◌, ℕ, ◌+◌, ◌<◌, false, List, [], ◌∷◌, ◌++◌, map, length, refl, ap, ◌∙◌, append-nil, arith}
use Rattle.std.specs.Prelude.{codes, decimal}
use Rattle.std.specs.Char.{is_ascii_whitespace}
use Rattle.std.specs.List.{flat_map, list_any}
use Rattle.std.proofs.lemmas.Bool.Decides.{nat_tests}
use Rattle.std.proofs.lemmas.Fmt.{decimal_nonempty}
use Rattle.tokens.specs.Tokens.{is_line_end, tokens_in}
use Rattle.tokens.proofs.Joined.{Whole, decimal_whole, digit_visible, free, one_token, token_joined, whole_joined}

-- the digits of a number are a token, and end no line
pub number_whole : (n : ℕ) → n < 4294967296 → Whole is_ascii_whitespace (decimal n)
number_whole n h = decimal_whole is_ascii_whitespace digit_visible n (omega (arith, h))

pub number_some : (n : ℕ) → n < 4294967296 → 0 < length (decimal n)
number_some n h = decimal_nonempty n (omega (arith, h))

digit_in_line : (d : ℕ) → d < 10 → is_line_end (48 + d) ≡ false
digit_in_line d h = grind (arith, nat_tests)

pub number_in_line : (n : ℕ) → n < 4294967296 → Whole is_line_end (decimal n)
number_in_line n h = decimal_whole is_line_end digit_in_line n (omega (arith, h))

-- a number behind a text
pub text_number : (xs : List ℕ) (n : ℕ) → list_any is_line_end xs ≡ false → n < 4294967296 → Whole is_line_end (xs ++ decimal n)
text_number xs n e h = whole_joined is_line_end xs (decimal n) (free is_line_end xs e) (number_in_line n h)

-- numbers that four bytes hold
abbrev pub Small : List ℕ → Type 0
Small [] = Unit {0}
Small (t ∷ ts) = (t < 4294967296) × Small ts

-- a word, and numbers behind it
pub words_joined : (w : List ℕ) (ts : List ℕ) → Whole is_ascii_whitespace w → 0 < length w → Small ts → tokens_in (w ++ flat_map (λ t. codes " " ++ decimal t) ts) ≡ w ∷ map decimal ts
words_joined w [] word some small = ap tokens_in (append-nil w) ∙ one_token w word some
words_joined w (t ∷ ts) word some small =
    token_joined w 32 (decimal t ++ flat_map (λ t. codes " " ++ decimal t) ts) word some refl
    ∙ ap (λ ws. w ∷ ws) (words_joined (decimal t) ts (number_whole t small.0) (number_some t small.0) small.1)

-- and the numbers end no line
pub numbers_in_line : (ts : List ℕ) → Small ts → Whole is_line_end (flat_map (λ t. codes " " ++ decimal t) ts)
numbers_in_line [] small = tt
numbers_in_line (t ∷ ts) small = (refl, whole_joined is_line_end (decimal t) _ (number_in_line t small.0) (numbers_in_line ts small.1))
