-- Costs and their text, gap by gap. Assumes nothing.
use Rattle.std.proofs.Common.{◌≡◌, ℕ, zero, suc, ◌+◌, ◌<◌, ◌≤◌, List, [], ◌∷◌, ◌++◌, map, length, drop, get_or, Some, refl, sym, ap, ◌∙◌, append-nil, append_assoc, arith}
use Rattle.std.specs.List.{slice_get}
use Rattle.std.specs.Option.{IsSome}
use Rattle.std.proofs.lemmas.List.{at_drop_all}
use Rattle.taps.specs.Readings.{Book, Read, costs, all_cost}
use Rattle.taps.specs.Values.{read_of}
use Rattle.taps.specs.declared.read.Read as code
use Rattle.pricing.specs.Pricing.{costs_text, gap_text}

pub gap_there : (gs : List ℕ) (i : ℕ) → i < length gs → IsSome (slice_get gs i)
gap_there [] i inside = absurd (omega arith)
gap_there (g ∷ gs) zero inside = refl
gap_there (g ∷ gs) (suc i) inside = gap_there gs i (omega arith)

-- the gaps from the one at a place on,
gaps_left : (gs : List ℕ) (i g : ℕ) → slice_get gs i ≡ Some g → drop i gs ≡ g ∷ drop (suc i) gs
gaps_left [] i g here = grind arith
gaps_left (x ∷ xs) zero g here = grind arith
gaps_left (x ∷ xs) (suc i) g here = gaps_left xs i g here

-- and the notes
notes_left : (rs : List code.Read) (i : ℕ) (r : code.Read) → i < length rs → r ≡ get_or rs i r → map read_of (drop i rs) ≡ read_of r ∷ map read_of (drop (suc i) rs)
notes_left [] i r inside is = absurd (omega arith)
notes_left (x ∷ xs) zero r inside is = ap (λ q. read_of q ∷ map read_of xs) (sym is)
notes_left (x ∷ xs) (suc i) r inside is = notes_left xs i r (omega arith) is

-- a function of the gaps and notes that are left takes the next ones off
next_off : {A : Type 0} (f : List ℕ → List Read → A) (gs : List ℕ) (rs : List code.Read) (i g : ℕ) (r : code.Read) → slice_get gs i ≡ Some g → i < length rs → r ≡ get_or rs i r →
    f (drop i gs) (map read_of (drop i rs)) ≡ f (g ∷ drop (i + 1) gs) (read_of r ∷ map read_of (drop (i + 1) rs))
next_off f gs rs i g r here inside is =
    let next : suc i ≡ i + 1 = omega arith in
    let gaps = gaps_left gs i g here in
    let notes = notes_left rs i r inside is in
    (λ j. f (gaps j) (notes j)) ∙ (λ j. f (g ∷ drop (next j) gs) (read_of r ∷ map read_of (drop (next j) rs)))

next_cost : (b : Book) (before g : ℕ) (gs : List ℕ) (r : Read) (rs : List Read) → all_cost b before (g ∷ gs) (r ∷ rs) ≡ costs b before g r + all_cost b (suc r.tempo) gs rs
unfolding all_cost
next_cost b before g gs r rs = refl

-- what all cost, with the next gap's cost in the sum
pub total_more : (b : Book) (before g i total cost all : ℕ) (gs : List ℕ) (rs : List code.Read) (r : code.Read) →
    slice_get gs i ≡ Some g → i < length rs → r ≡ get_or rs i r → cost ≡ costs b before g (read_of r) → total + all_cost b before (drop i gs) (map read_of (drop i rs)) ≡ all →
    (total + cost) + all_cost b (suc r.tempo) (drop (i + 1) gs) (map read_of (drop (i + 1) rs)) ≡ all
total_more b before g i total cost all gs rs r here inside is value whole =
    let left : all_cost b before (drop i gs) (map read_of (drop i rs)) ≡ cost + all_cost b (suc r.tempo) (drop (i + 1) gs) (map read_of (drop (i + 1) rs)) =
    next_off (all_cost b before) gs rs i g r here inside is
    ∙ next_cost b before g (drop (i + 1) gs) (read_of r) (map read_of (drop (i + 1) rs))
    ∙ ap (λ n. n + all_cost b (suc r.tempo) (drop (i + 1) gs) (map read_of (drop (i + 1) rs))) (sym value) in
    omega arith

none_cost : (b : Book) (before : ℕ) (gs : List ℕ) → all_cost b before gs [] ≡ 0
unfolding all_cost
none_cost b before [] = refl
none_cost b before (g ∷ gs) = refl

-- where no note is left the sum is what all cost
pub total_whole : (b : Book) (before i total all : ℕ) (gs : List ℕ) (rs : List code.Read) → length rs ≤ i → total + all_cost b before (drop i gs) (map read_of (drop i rs)) ≡ all → total ≡ all
total_whole b before i total all gs rs past whole =
    let none : all_cost b before (drop i gs) (map read_of (drop i rs)) ≡ 0 = at_drop_all (λ qs. all_cost b before (drop i gs) (map read_of qs)) rs i past ∙ none_cost b before (drop i gs) in
    omega arith

-- the text of all, with the next gap's line written
pub text_more : (b : Book) (before g i : ℕ) (w all gs : List ℕ) (rs : List code.Read) (r : code.Read) →
    slice_get gs i ≡ Some g → i < length rs → r ≡ get_or rs i r → w ++ costs_text b before (drop i gs) (map read_of (drop i rs)) ≡ all →
    (w ++ (gap_text b before g (read_of r) ++ 10 ∷ [])) ++ costs_text b (suc r.tempo) (drop (i + 1) gs) (map read_of (drop (i + 1) rs)) ≡ all
text_more b before g i w all gs rs r here inside is whole =
    let line = gap_text b before g (read_of r) in
    let left = costs_text b (suc r.tempo) (drop (i + 1) gs) (map read_of (drop (i + 1) rs)) in
    append_assoc w (line ++ 10 ∷ []) left ∙ ap (λ t. w ++ t) (append_assoc line (10 ∷ []) left ∙ sym (next_off (costs_text b before) gs rs i g r here inside is)) ∙ whole

none_text : (b : Book) (before : ℕ) (gs : List ℕ) → costs_text b before gs [] ≡ []
none_text b before [] = refl
none_text b before (g ∷ gs) = refl

-- where no note is left all is written
pub text_whole : (b : Book) (before i : ℕ) (w all gs : List ℕ) (rs : List code.Read) → length rs ≤ i → w ++ costs_text b before (drop i gs) (map read_of (drop i rs)) ≡ all → w ≡ all
text_whole b before i w all gs rs past whole =
    sym (append-nil w) ∙ ap (λ t. w ++ t) (sym (at_drop_all (λ qs. costs_text b before (drop i gs) (map read_of qs)) rs i past ∙ none_text b before (drop i gs))) ∙ whole
