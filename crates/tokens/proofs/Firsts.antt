-- Parts, and the first one, cut off; so lines and tokens. Assumes nothing.
use Rattle.std.proofs.Common.{◌≡◌, ℕ, zero, suc, ◌<◌, ◌≤◌, Bool, true, false, not, ◌⊎◌, cond, Some, None, inl, inr, List, [], ◌∷◌, ◌++◌, length, take, drop, refl, sym, ap, ◌∙◌, subst, arith, nat_lt, slice_index}
use Rattle.std.specs.Char.{is_ascii_whitespace}
use Rattle.std.specs.List.{position_or_len}
use Rattle.std.specs.Option.{unwrap_or}
use Rattle.std.specs.Str.{IsTrimAsciiStart}
use Rattle.std.proofs.lemmas.Bool.{cases_Bool, cond-true, cond-false}
use Rattle.std.proofs.lemmas.List.Sums.{prefix_len-le-length}
use Rattle.tokens.specs.Tokens.{before, behind, filled, is_line_end, lines_in, onto, parts, tokens_in, unless_empty, until_end, visible}

-- the place that is found, or the size where none is
pub found_place : (ends : ℕ → Bool) (xs : List ℕ) → unwrap_or (cond (nat_lt (position_or_len ends xs) (length xs)) (Some (position_or_len ends xs)) None) (length xs) ≡ position_or_len ends xs
found_place ends xs = grind (arith, prefix_len-le-length (λ x. not (ends x)) xs)

pub place_within : (ends : ℕ → Bool) (xs : List ℕ) → position_or_len ends xs ≤ length xs
place_within ends xs = prefix_len-le-length (λ x. not (ends x)) xs

place_more : (ends : ℕ → Bool) (c : ℕ) (cs : List ℕ) → ends c ≡ false → position_or_len ends (c ∷ cs) ≡ suc (position_or_len ends cs)
place_more ends c cs e = rw e (omega arith)

-- the first n bytes are the only part, or others stand behind its end
abbrev Cut : (ℕ → Bool) → List ℕ → ℕ → Type 0
Cut ends xs n = ((parts ends xs ≡ take n xs ∷ []) × (n ≡ length xs)) ⊎ ((parts ends xs ≡ take n xs ∷ parts ends (drop (suc n) xs)) × (n < length xs))

cut_more : (ends : ℕ → Bool) (c : ℕ) (cs : List ℕ) (n : ℕ) → ends c ≡ false → Cut ends cs n → Cut ends (c ∷ cs) (suc n)
cut_more ends c cs n e (inl p) = inl (rw e (ap (onto c) p.0), ap suc p.1)
cut_more ends c cs n e (inr p) = inr (rw e (ap (onto c) p.0), omega (arith, p.1))

cut_first : (ends : ℕ → Bool) (c : ℕ) (cs : List ℕ) → ends c ≡ true → Cut ends (c ∷ cs) 0
cut_first ends c cs e = inr (rw e refl, omega arith)

cut_place : (ends : ℕ → Bool) (xs : List ℕ) → Cut ends xs (position_or_len ends xs)
cut_place ends [] = inl (refl, refl)
cut_place ends (c ∷ cs) =
    elim (cases_Bool (ends c)) [
      | inl e ↦ subst (Cut ends (c ∷ cs)) (rw e refl) (cut_first ends c cs e)
      | inr e ↦ subst (Cut ends (c ∷ cs)) (sym (place_more ends c cs e)) (cut_more ends c cs (position_or_len ends cs) e (cut_place ends cs))
    ]

-- there is always a part
some_part : (ends : ℕ → Bool) (xs : List ℕ) → (p : List ℕ) × (ps : List (List ℕ)) × (parts ends xs ≡ p ∷ ps)
some_part ends xs =
    elim (cut_place ends xs) [
      | inl c ↦ (before ends xs, [], c.0)
      | inr c ↦ (before ends xs, parts ends (behind ends xs), c.0)
    ]

until_more : (p : List ℕ) (ps : List (List ℕ)) (q : List ℕ) (qs : List (List ℕ)) → ps ≡ q ∷ qs → until_end (p ∷ ps) ≡ p ∷ until_end ps
until_more p ps q qs e = rw e refl

pub unless_some : (xs : List ℕ) → 0 < length xs → unless_empty xs ≡ xs ∷ []
unless_some [] h = absurd (omega (arith, h))
unless_some (c ∷ cs) h = refl

pub all_taken : (xs : List ℕ) → take (length xs) xs ≡ xs
all_taken [] = refl
all_taken (c ∷ cs) = ap (λ ys. c ∷ ys) (all_taken cs)

pub none_behind : (xs : List ℕ) → drop (suc (length xs)) xs ≡ []
none_behind [] = refl
none_behind (c ∷ cs) = none_behind cs

-- a text's first line, and those behind it
pub line_first : (xs : List ℕ) → 0 < length xs → lines_in xs ≡ before is_line_end xs ∷ lines_in (behind is_line_end xs)
line_first xs h =
    elim (cut_place is_line_end xs) [
      | inl c ↦
          let all : before is_line_end xs ≡ xs = (λ i. take (c.1 i) xs) ∙ all_taken xs in
          let none : behind is_line_end xs ≡ [] = (λ i. drop (suc (c.1 i)) xs) ∙ none_behind xs in
          ap until_end c.0 ∙ ap unless_empty all ∙ unless_some xs h ∙ sym (ap (λ ys. ys ∷ lines_in (behind is_line_end xs)) all ∙ ap (λ ys. xs ∷ lines_in ys) none)
      | inr c ↦ let s = some_part is_line_end (behind is_line_end xs) in ap until_end c.0 ∙ until_more (before is_line_end xs) (parts is_line_end (behind is_line_end xs)) s.0 s.1 s.2
    ]

-- a line's first token, where it begins with one, and those behind it
token_first : (c : ℕ) (cs : List ℕ) → is_ascii_whitespace c ≡ false →
    tokens_in (c ∷ cs) ≡ before is_ascii_whitespace (c ∷ cs) ∷ tokens_in (behind is_ascii_whitespace (c ∷ cs))
token_first c cs e =
    let n = position_or_len is_ascii_whitespace cs in
    let place : position_or_len is_ascii_whitespace (c ∷ cs) ≡ suc n = place_more is_ascii_whitespace c cs e in
    let begins : before is_ascii_whitespace (c ∷ cs) ≡ c ∷ take n cs = (λ i. take (place i) (c ∷ cs)) in
    elim (cut_place is_ascii_whitespace (c ∷ cs)) [
      | inl k ↦
          let none : behind is_ascii_whitespace (c ∷ cs) ≡ [] = (λ i. drop (suc (k.1 i)) (c ∷ cs)) ∙ none_behind (c ∷ cs) in
          ap filled k.0 ∙ ap (λ p. unless_empty p ++ []) begins ∙ sym (ap (λ p. p ∷ tokens_in (behind is_ascii_whitespace (c ∷ cs))) begins ∙ ap (λ ys. (c ∷ take n cs) ∷ tokens_in ys) none)
      | inr k ↦
          let others = tokens_in (behind is_ascii_whitespace (c ∷ cs)) in
          ap filled k.0 ∙ ap (λ p. unless_empty p ++ others) begins ∙ sym (ap (λ p. p ∷ others) begins)
    ]

-- blanks in front hide no token
tokens_visible : (xs : List ℕ) → tokens_in xs ≡ tokens_in (visible xs)
tokens_visible [] = refl
tokens_visible (c ∷ cs) =
    let blank = is_ascii_whitespace c in
    let others = parts is_ascii_whitespace cs in
    elim (cases_Bool blank) [
      | inl e ↦ ap filled (cond-true blank ([] ∷ others) (onto c others) e) ∙ tokens_visible cs ∙ sym (ap tokens_in (cond-true blank (visible cs) (c ∷ cs) e))
      | inr e ↦ ap tokens_in (sym (cond-false blank (visible cs) (c ∷ cs) e))
    ]

visible_first : (xs : List ℕ) → 0 < length (visible xs) → (c : ℕ) × (cs : List ℕ) × (visible xs ≡ c ∷ cs) × (is_ascii_whitespace c ≡ false)
visible_first [] h = absurd (omega (arith, h))
visible_first (c ∷ cs) h =
    let blank = is_ascii_whitespace c in
    elim (cases_Bool blank) [
      | inl e ↦
          let same = cond-true blank (visible cs) (c ∷ cs) e in
          let first = visible_first cs (subst (λ ys. 0 < length ys) same h) in
          (first.0, first.1, same ∙ first.2, first.3)
      | inr e ↦ (c, cs, cond-false blank (visible cs) (c ∷ cs) e, e)
    ]

-- a line's first token, and those behind it
pub token_split : (xs : List ℕ) → 0 < length (visible xs) →
    tokens_in xs ≡ before is_ascii_whitespace (visible xs) ∷ tokens_in (behind is_ascii_whitespace (visible xs))
token_split xs h =
    let first = visible_first xs h in
    tokens_visible xs ∙ subst (λ ys. tokens_in ys ≡ before is_ascii_whitespace ys ∷ tokens_in (behind is_ascii_whitespace ys)) (sym first.2) (token_first first.0 first.1 first.3)

-- where all is blank there is none
pub token_none : (xs : List ℕ) → visible xs ≡ [] → tokens_in xs ≡ []
token_none xs e = tokens_visible xs ∙ ap tokens_in e

trimmed_from : (s : List ℕ) (n : ℕ) → ((i : ℕ) → i < n → is_ascii_whitespace (slice_index s i) ≡ true) → (n < length s → is_ascii_whitespace (slice_index s n) ≡ false) → drop n s ≡ visible s
trimmed_from [] zero blank shown = refl
trimmed_from [] (suc n) blank shown = refl
trimmed_from (c ∷ cs) zero blank shown = sym (cond-false (is_ascii_whitespace c) (visible cs) (c ∷ cs) (shown (omega arith)))
trimmed_from (c ∷ cs) (suc n) blank shown =
    trimmed_from cs n (λ i h. blank (suc i) (omega (arith, h))) (λ h. shown (omega (arith, h)))
    ∙ sym (cond-true (is_ascii_whitespace c) (visible cs) (c ∷ cs) (blank 0 (omega arith)))

-- what is left of a line without the blanks in front
pub trimmed : (s r : List ℕ) → IsTrimAsciiStart s r → r ≡ visible s
trimmed s r t = t.1 ∙ trimmed_from s t.0 t.3 t.4

-- what stands behind the byte at a place
pub drop_next : (xs : List ℕ) (n c : ℕ) (cs : List ℕ) → drop n xs ≡ c ∷ cs → cs ≡ drop (suc n) xs
drop_next [] zero c cs e = grind arith
drop_next [] (suc n) c cs e = grind arith
drop_next (x ∷ xs) zero c cs e = grind arith
drop_next (x ∷ xs) (suc n) c cs e = drop_next xs n c cs e

-- what no byte is left of is the whole text
pub size_none : (xs : List ℕ) → length xs ≡ 0 → xs ≡ []
size_none [] e = refl
size_none (c ∷ cs) e = absurd (omega (arith, e))
