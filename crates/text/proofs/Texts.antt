-- A reading's text, note by note. Assumes nothing.
use Rattle.std.proofs.Common.{◌≡◌, ℕ, suc, ◌+◌, ◌<◌, List, [], ◌∷◌, ◌++◌, map, length, take, get_or, append-nil, append_assoc, sym, ap, ◌∙◌, arith}
use Rattle.std.specs.Prelude.{codes}
use Rattle.std.specs.List.{flat_map}
use Rattle.std.proofs.lemmas.Grind.{flat_map-append}
use Rattle.std.proofs.lemmas.List.{map-append, take_more}
use Rattle.taps.specs.Readings.{Book}
use Rattle.taps.specs.Values.{read_of}
use Rattle.taps.specs.declared.read.Read.{Read}
use Rattle.text.specs.Lines.{note_text, reading_text}

-- behind the first note and i more comes the next one, behind a blank
pub reading_more : (b : Book) (all rest : List Read) (first next : Read) (i : ℕ) → all ≡ first ∷ rest → i < length rest → next ≡ get_or rest i next →
    reading_text b (map read_of (take (i + 1) all)) ++ (codes " " ++ note_text b (read_of next)) ≡ reading_text b (map read_of (take (i + 1 + 1) all))
reading_more b all rest first next i e inside is =
    let note : Read → List ℕ = λ r. codes " " ++ note_text b (read_of r) in
    let one : i + 1 ≡ suc i = omega arith in
    let two : i + 1 + 1 ≡ suc (i + 1) = omega arith in
    let before : take (i + 1) all ≡ first ∷ take i rest = (λ j. take (one j) (e j)) in
    let after : take (i + 1 + 1) all ≡ first ∷ (take i rest ++ next ∷ []) =
    (λ j. take (two j) (e j)) ∙ ap (λ xs. first ∷ xs) (take_more rest i next inside ∙ ap (λ r. take i rest ++ r ∷ []) (sym is)) in
    let tail : flat_map (λ q. codes " " ++ note_text b q) (map read_of (take i rest ++ next ∷ [])) ≡ flat_map (λ q. codes " " ++ note_text b q) (map read_of (take i rest)) ++ note next =
    ap (flat_map (λ q. codes " " ++ note_text b q)) (map-append read_of (take i rest) (next ∷ []))
    ∙ flat_map-append (λ q. codes " " ++ note_text b q) (map read_of (take i rest)) (read_of next ∷ [])
    ∙ ap (λ xs. flat_map (λ q. codes " " ++ note_text b q) (map read_of (take i rest)) ++ xs) (append-nil (note next)) in
    ap (λ xs. reading_text b (map read_of xs) ++ note next) before
    ∙ append_assoc (note_text b (read_of first)) (flat_map (λ q. codes " " ++ note_text b q) (map read_of (take i rest))) (note next)
    ∙ ap (λ xs. note_text b (read_of first) ++ xs) (sym tail)
    ∙ sym (ap (λ xs. reading_text b (map read_of xs)) after)
