-- Two lines that are priced. Assumes nothing.
use Rattle.std.proofs.Common.{◌≡◌, ℕ, false, Some, None, Option, IfNone, is_some, ◌<◌, List, [], ◌∷◌, length, refl, sym, ap, ◌∙◌, arith}
use Rattle.taps.specs.Readings.{Book}
use Rattle.tokens.specs.Tokens.{before, behind, is_line_end, tokens_in}
use Rattle.text.specs.Notes.{reading_in}
use Rattle.pricing.specs.TapLine.{taps_in_line}
use Rattle.pricing.specs.Priced.{both, priced_by, priced_in, with_taps}

first_line : (b : Book) (text : List ℕ) → 0 < length text → priced_in b text ≡ with_taps b (before is_line_end text) (behind is_line_end text)
first_line b [] some = absurd (omega (arith, some))
first_line b (c ∷ cs) some = refl

second_line : (b : Book) (times rest : List ℕ) → 0 < length rest → tokens_in (behind is_line_end rest) ≡ [] →
    with_taps b times rest ≡ both (taps_in_line times) (reading_in b (before is_line_end rest))
second_line b times [] some none = absurd (omega (arith, some))
second_line b times (c ∷ cs) some none = ap (priced_by b times (before is_line_end (c ∷ cs))) none

-- with two lines, and nothing behind them
pub two_lines : (b : Book) (text times rest notes more : List ℕ) → 0 < length text → times ≡ before is_line_end text → rest ≡ behind is_line_end text →
    0 < length rest → notes ≡ before is_line_end rest → more ≡ behind is_line_end rest → tokens_in more ≡ [] → priced_in b text ≡ both (taps_in_line times) (reading_in b notes)
two_lines b text times rest notes more some times_is rest_is left notes_is more_is none =
    first_line b text some
    ∙ (λ i. with_taps b (sym times_is i) (sym rest_is i))
    ∙ second_line b times rest left (sym (ap tokens_in more_is) ∙ none)
    ∙ ap (λ ns. both (taps_in_line times) (reading_in b ns)) (sym notes_is)

-- a text that no token was split off
pub no_token : {A : Type 0} (text : List ℕ) (r : Option A) → is_some r ≡ false → IfNone r (tokens_in text ≡ []) → tokens_in text ≡ []
no_token text None e none = none
no_token text (Some x) e none = grind arith
