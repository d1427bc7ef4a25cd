-- Taps and their reading, printed as two lines, are priced as what they cost. Assumes nothing.
use Rattle.std.proofs.Common.{◌≡◌, ℕ, ◌<◌, ◌≤◌, true, ◌||◌, eqb, ltb, List, [], ◌∷◌, ◌++◌, map, length, Ok, refl, sym, ap, ◌∙◌, append-nil, append_assoc, arith}
use Rattle.std.specs.Prelude.{codes, decimal}
use Rattle.std.specs.List.{flat_map}
use Rattle.std.proofs.lemmas.Bool.{and_parts, ltb-true}
use Rattle.std.proofs.lemmas.Bool.Decides.{nat_tests}
use Rattle.std.proofs.lemmas.List.{length-append}
use Rattle.taps.specs.Readings.{Book, Read, kind_at, tempo_at, reading}
use Rattle.taps.specs.Calls.{last_of, gaps, turned, changed}
use Rattle.taps.specs.Promise.{GoodBook, small}
use Rattle.taps.proofs.Between.{length_gaps}
use Rattle.onsets.specs.Laws.{rises}
use Rattle.onsets.proofs.Sound.{gaps_small}
use Rattle.tokens.specs.Tokens.{is_line_end, number_in, tokens_in}
use Rattle.tokens.proofs.Joined.{Whole, before_joined, before_whole, behind_joined, behind_whole, free, whole_joined}
use Rattle.tokens.proofs.Numbers.{number_reads}
use Rattle.tokens.proofs.Printed.{Small, number_in_line, number_some, number_whole, numbers_in_line, text_number, words_joined}
use Rattle.text.proofs.Printed.{note_short}
use Rattle.text.specs.Lines.{note_text, reading_text}
use Rattle.text.specs.Notes.{reading_in}
use Rattle.text.proofs.Again.{best_read}
use Rattle.pricing.specs.Laws.{PricesAgree, times_text}
use Rattle.pricing.specs.Priced.{both, priced_in}
use Rattle.pricing.specs.TapLine.{if_taken, tap_then, taps_in_line, taps_then}
use Rattle.pricing.proofs.Priced.{two_lines}

-- a tap among those that rise is later than the last before it
later_than : (ts : List ℕ) (t : ℕ) (us : List ℕ) → rises (ts ++ t ∷ us) ≡ true → (eqb (length ts) 0 || ltb (last_of 0 ts) t) ≡ true
unfolding rises last_of
later_than [] t us rising = refl
later_than (u ∷ []) t us rising = (and_parts (ltb u t) (rises (t ∷ us)) rising).0
later_than (u ∷ v ∷ vs) t us rising = grind (arith, nat_tests, later_than (v ∷ vs) t us (and_parts (ltb u v) (rises ((v ∷ vs) ++ t ∷ us)) rising).1)

-- and among those that are early enough it is
in_time : (ts : List ℕ) (t : ℕ) (us : List ℕ) → small (ts ++ t ∷ us) ≡ true → ltb t 16777216 ≡ true
unfolding small
in_time [] t us timely = (and_parts (ltb t 16777216) (small us) timely).0
in_time (u ∷ ts) t us timely = in_time ts t us (and_parts (ltb u 16777216) (small (ts ++ t ∷ us)) timely).1

-- so it is taken
tap_taken : (ts : List ℕ) (t : ℕ) (us : List ℕ) → length (ts ++ t ∷ us) ≤ 256 → rises (ts ++ t ∷ us) ≡ true → small (ts ++ t ∷ us) ≡ true →
    tap_then ts (number_in (decimal t)) ≡ Ok (ts ++ t ∷ [])
unfolding turned changed
tap_taken ts t us few rising timely =
    let early = in_time ts t us timely in
    let later = later_than ts t us rising in
    let below : t < 16777216 = ltb-true t 16777216 early in
    let room : length ts < 256 = omega (arith, few, length-append ts (t ∷ us)) in
    ap (tap_then ts) (number_reads t (omega (arith, below))) ∙ grind (arith, nat_tests)

-- and all are, one after another
taps_taken : (ts us : List ℕ) → length (ts ++ us) ≤ 256 → rises (ts ++ us) ≡ true → small (ts ++ us) ≡ true → taps_then ts (map decimal us) ≡ Ok (ts ++ us)
taps_taken ts [] few rising timely = ap Ok (sym (append-nil ts))
taps_taken ts (u ∷ us) few rising timely =
    let same = append_assoc ts (u ∷ []) us in
    ap (λ r. if_taken r (λ vs. taps_then vs (map decimal us))) (tap_taken ts u us few rising timely)
    ∙ taps_taken (ts ++ u ∷ []) us (rw same few) (rw same rising) (rw same timely)
    ∙ ap Ok same

times_short : (ts : List ℕ) → small ts ≡ true → Small ts
unfolding small
times_short [] timely = tt
times_short (t ∷ ts) timely =
    let parts = and_parts (ltb t 16777216) (small ts) timely in
    let below : t < 16777216 = ltb-true t 16777216 parts.0 in
    (omega (arith, below), times_short ts parts.1)

-- the words of a line of taps are their numbers,
times_tokens : (ts : List ℕ) → Small ts → tokens_in (times_text ts) ≡ map decimal ts
times_tokens [] short = refl
times_tokens (t ∷ ts) short = words_joined (decimal t) ts (number_whole t short.0) (number_some t short.0) short.1

times_in_line : (ts : List ℕ) → Small ts → Whole is_line_end (times_text ts)
times_in_line [] short = tt
times_in_line (t ∷ ts) short = whole_joined is_line_end (decimal t) _ (number_in_line t short.0) (numbers_in_line ts short.1)

-- a reading is a line, and not an empty one
note_in_line : (b : Book) (r : Read) → GoodBook b → Whole is_line_end (note_text b r) × (0 < length (note_text b r))
note_in_line b r good =
    let short = note_short b r good in
    let number = decimal (kind_at b r.kind).ticks in
    let rest = codes "@" ++ decimal (tempo_at b r.tempo) in
    (whole_joined is_line_end number rest (number_in_line (kind_at b r.kind).ticks short.0) (text_number (codes "@") (tempo_at b r.tempo) refl short.1), omega (arith, length-append number rest, number_some (kind_at b r.kind).ticks short.0))

notes_in_line : (b : Book) (rs : List Read) → GoodBook b → Whole is_line_end (flat_map (λ q. codes " " ++ note_text b q) rs)
notes_in_line b [] good = tt
notes_in_line b (r ∷ rs) good = (refl, whole_joined is_line_end (note_text b r) _ (note_in_line b r good).0 (notes_in_line b rs good))

reading_in_line : (b : Book) (rs : List Read) → GoodBook b → Whole is_line_end (reading_text b rs) × (0 < length (reading_text b rs))
reading_in_line b [] good = (free is_line_end (codes "none") refl, omega arith)
reading_in_line b (r ∷ rs) good =
    let note = note_in_line b r good in
    let rest = flat_map (λ q. codes " " ++ note_text b q) rs in
    (whole_joined is_line_end (note_text b r) rest note.0 (notes_in_line b rs good), omega (arith, length-append (note_text b r) rest, note.1))

-- a note for each gap
one_for_each : (ts : List ℕ) (rs : List Read) → length rs ≡ length (gaps ts) → both (Ok ts) (Ok rs) ≡ Ok (ts, rs)
one_for_each ts rs each = grind (arith, nat_tests)

pub prices_agree : PricesAgree
prices_agree b ts good sound =
    let few : length (gaps ts) ≤ 255 = omega (arith, length_gaps ts, sound.few) in
    let best = best_read b (gaps ts) good (gaps_small ts sound.timely) few in
    let short = times_short ts sound.timely in
    let times = times_text ts in
    let notes = reading_text b (reading b 0 (gaps ts)) in
    let text = times ++ 10 ∷ notes in
    let first = times_in_line ts short in
    let second = reading_in_line b (reading b 0 (gaps ts)) good in
    let taken : taps_in_line times ≡ Ok ts = ap (taps_then []) (times_tokens ts short) ∙ taps_taken [] ts sound.few sound.rising sound.timely in
    let lines : priced_in b text ≡ both (taps_in_line times) (reading_in b notes) =
    two_lines b text times notes notes [] (omega (arith, length-append times (10 ∷ notes))) (sym (before_joined is_line_end times 10 notes first refl)) (sym (behind_joined is_line_end times 10 notes first refl))
    second.1 (sym (before_whole is_line_end notes second.0)) (sym (behind_whole is_line_end notes second.0)) refl in
    (best.0, lines ∙ (λ i. both (taken i) (best.1 i)) ∙ one_for_each ts best.0 best.2, best.3)
