-- Text that is joined from words with an end between them, cut again. Assumes nothing.
use Rattle.std.proofs.Common.{◌≡◌, ℕ, suc, ◌+◌, ◌%◌, ◌<◌, Bool, true, false, List, [], ◌∷◌, ◌++◌, length, take, drop, refl, sym, ap, ◌∙◌, arith}
use Rattle.std.specs.Prelude.{decimal}
use Rattle.std.specs.Char.{is_ascii_whitespace}
use Rattle.std.specs.List.{list_any, position_or_len}
use Rattle.std.proofs.lemmas.Bool.{cond-true, cond-false}
use Rattle.std.proofs.lemmas.Bool.Decides.{nat_tests}
use Rattle.std.proofs.lemmas.Fmt.{decimal_by_steps}
use Rattle.std.proofs.lemmas.List.{drop_at, length-append, take_at}
use Rattle.tokens.specs.Tokens.{before, behind, filled, is_line_end, lines_in, onto, parts, tokens_in}
use Rattle.tokens.proofs.Firsts.{all_taken, drop_next, line_first, none_behind, unless_some}

-- no byte of these ends a part
abbrev pub Whole : (ℕ → Bool) → List ℕ → Type 0
Whole ends [] = Unit {0}
Whole ends (c ∷ cs) = (ends c ≡ false) × Whole ends cs

pub whole_joined : (ends : ℕ → Bool) (xs ys : List ℕ) → Whole ends xs → Whole ends ys → Whole ends (xs ++ ys)
whole_joined ends [] ys w v = v
whole_joined ends (c ∷ cs) ys w v = (w.0, whole_joined ends cs ys w.1 v)

-- as a test of each byte tells
pub free : (ends : ℕ → Bool) (xs : List ℕ) → list_any ends xs ≡ false → Whole ends xs
free ends [] e = tt
free ends (c ∷ cs) e = (grind arith, free ends cs (grind arith))

-- a part by itself
parts_whole : (ends : ℕ → Bool) (xs : List ℕ) → Whole ends xs → parts ends xs ≡ xs ∷ []
parts_whole ends [] w = refl
parts_whole ends (c ∷ cs) w = cond-false (ends c) ([] ∷ parts ends cs) (onto c (parts ends cs)) w.0 ∙ ap (onto c) (parts_whole ends cs w.1)

-- a part in front of an end
parts_joined : (ends : ℕ → Bool) (xs : List ℕ) (e : ℕ) (ys : List ℕ) → Whole ends xs → ends e ≡ true → parts ends (xs ++ e ∷ ys) ≡ xs ∷ parts ends ys
parts_joined ends [] e ys w is = cond-true (ends e) ([] ∷ parts ends ys) (onto e (parts ends ys)) is
parts_joined ends (c ∷ cs) e ys w is =
    cond-false (ends c) ([] ∷ parts ends (cs ++ e ∷ ys)) (onto c (parts ends (cs ++ e ∷ ys))) w.0 ∙ ap (onto c) (parts_joined ends cs e ys w.1 is)

-- the end in front of which they stand is the first
place_joined : (ends : ℕ → Bool) (xs : List ℕ) (e : ℕ) (ys : List ℕ) → Whole ends xs → ends e ≡ true → position_or_len ends (xs ++ e ∷ ys) ≡ length xs
place_joined ends [] e ys w is = rw is refl
place_joined ends (c ∷ cs) e ys w is = rw w.0 (omega (arith, place_joined ends cs e ys w.1 is))

-- so what stands before it, and what behind
pub before_joined : (ends : ℕ → Bool) (xs : List ℕ) (e : ℕ) (ys : List ℕ) → Whole ends xs → ends e ≡ true → before ends (xs ++ e ∷ ys) ≡ xs
before_joined ends xs e ys w is = take_at xs (e ∷ ys) (position_or_len ends (xs ++ e ∷ ys)) (sym (place_joined ends xs e ys w is))

pub behind_joined : (ends : ℕ → Bool) (xs : List ℕ) (e : ℕ) (ys : List ℕ) → Whole ends xs → ends e ≡ true → behind ends (xs ++ e ∷ ys) ≡ ys
behind_joined ends xs e ys w is =
    let n = position_or_len ends (xs ++ e ∷ ys) in
    sym (drop_next (xs ++ e ∷ ys) n e ys (drop_at xs (e ∷ ys) n (sym (place_joined ends xs e ys w is))))

-- without an end all stands before one, and nothing behind
place_whole : (ends : ℕ → Bool) (xs : List ℕ) → Whole ends xs → position_or_len ends xs ≡ length xs
place_whole ends [] w = refl
place_whole ends (c ∷ cs) w = rw w.0 (omega (arith, place_whole ends cs w.1))

pub before_whole : (ends : ℕ → Bool) (xs : List ℕ) → Whole ends xs → before ends xs ≡ xs
before_whole ends xs w = (λ i. take (place_whole ends xs w i) xs) ∙ all_taken xs

pub behind_whole : (ends : ℕ → Bool) (xs : List ℕ) → Whole ends xs → behind ends xs ≡ []
behind_whole ends xs w = (λ i. drop (suc (place_whole ends xs w i)) xs) ∙ none_behind xs

-- a line in front of others
pub line_joined : (xs ys : List ℕ) → Whole is_line_end xs → lines_in (xs ++ 10 ∷ ys) ≡ xs ∷ lines_in ys
line_joined xs ys w =
    line_first (xs ++ 10 ∷ ys) (omega (arith, length-append xs (10 ∷ ys)))
    ∙ (λ i. before_joined is_line_end xs 10 ys w refl i ∷ lines_in (behind_joined is_line_end xs 10 ys w refl i))

filled_some : (xs : List ℕ) (ps : List (List ℕ)) → 0 < length xs → filled (xs ∷ ps) ≡ xs ∷ filled ps
filled_some xs ps some = ap (λ ys. ys ++ filled ps) (unless_some xs some)

-- a word is one token, and in front of a blank the first one
pub one_token : (xs : List ℕ) → Whole is_ascii_whitespace xs → 0 < length xs → tokens_in xs ≡ xs ∷ []
one_token xs w some = ap filled (parts_whole is_ascii_whitespace xs w) ∙ filled_some xs [] some

pub token_joined : (xs : List ℕ) (e : ℕ) (ys : List ℕ) → Whole is_ascii_whitespace xs → 0 < length xs → is_ascii_whitespace e ≡ true → tokens_in (xs ++ e ∷ ys) ≡ xs ∷ tokens_in ys
token_joined xs e ys w some is = ap filled (parts_joined is_ascii_whitespace xs e ys w is) ∙ filled_some xs (parts is_ascii_whitespace ys) some

-- digits are whole where no digit is an end
pub decimal_whole : (ends : ℕ → Bool) → ((d : ℕ) → d < 10 → ends (48 + d) ≡ false) → (n : ℕ) → n < 18446744073709551616 → Whole ends (decimal n)
decimal_whole ends digit n h =
    decimal_by_steps (λ m ds. Whole ends ds) (λ m l. (digit m l, tt))
    (λ m ds l front. whole_joined ends ds ((48 + m % 10) ∷ []) front (digit (m % 10) (omega arith), tt)) n h

-- so between blanks
pub digit_visible : (d : ℕ) → d < 10 → is_ascii_whitespace (48 + d) ≡ false
digit_visible d h = grind (arith, nat_tests)
