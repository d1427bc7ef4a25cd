-- A line's notes, token by token. Assumes nothing.
use Rattle.std.proofs.Common.{◌≡◌, ℕ, ◌+◌, ◌<◌, ◌≤◌, List, [], ◌∷◌, ◌++◌, map, length, take, Err, sym, ap, ◌∙◌, arith, nat_lt}
use Rattle.std.proofs.Math.ListN.{set}
use Rattle.std.specs.Prelude.{Result}
use Rattle.std.proofs.lemmas.Bool.{cond-true, cond-false, lt-ltb, le-ltb}
use Rattle.std.proofs.lemmas.List.{length-map, length-take-le, map-append, take_more_set}
use Rattle.taps.specs.Readings as readings
use Rattle.taps.specs.Readings.{Book}
use Rattle.taps.specs.Values.{read_of}
use Rattle.taps.specs.declared.read.Read.{Read}
use Rattle.text.specs.declared.reading.Unread.{Unread}
use Rattle.text.specs.declared.reading.Unread.TheVariants.{TooMany}
use Rattle.text.specs.Notes.{and_then, notes_in, read_in}

-- the first token is read where there is room for it
pub note_first : (b : Book) (rs : List readings.Read) (w : List ℕ) (ws : List (List ℕ)) → length rs < 255 → notes_in b rs (w ∷ ws) ≡ and_then (λ r. notes_in b (rs ++ r ∷ []) ws) (read_in b (length rs) w)
note_first b rs w ws room = cond-true (nat_lt (length rs) 255) (and_then (λ r. notes_in b (rs ++ r ∷ []) ws) (read_in b (length rs) w)) (Err TooMany) (lt-ltb _ _ room)

count_taken : (all : List Read) (count : ℕ) → count ≤ length all → length (map read_of (take count all)) ≡ count
count_taken all count within = length-map (take count all) read_of ∙ length-take-le count all within

-- past 255 notes there is one too many
pub note_full : (b : Book) (all : List Read) (count : ℕ) (w : List ℕ) (ws ts : List (List ℕ)) → length all ≡ 255 → count ≡ 255 → ts ≡ w ∷ ws → notes_in b (map read_of (take count all)) ts ≡ Err TooMany
note_full b all count w ws ts whole full e =
    let rs = map read_of (take count all) in
    let n : length rs ≡ count = count_taken all count (omega arith) in
    ap (notes_in b rs) e ∙ cond-false (nat_lt (length rs) 255) (and_then (λ r. notes_in b (rs ++ r ∷ []) ws) (read_in b (length rs) w)) (Err TooMany) (le-ltb _ _ (omega arith))

-- behind the notes so far the next token is what it is by itself
pub note_next : (b : Book) (all : List Read) (count : ℕ) (w : List ℕ) (ws ts : List (List ℕ)) (r : Result readings.Read Unread) → length all ≡ 255 → count < 255 → ts ≡ w ∷ ws → r ≡ read_in b count w →
    notes_in b (map read_of (take count all)) ts ≡ and_then (λ q. notes_in b (map read_of (take count all) ++ q ∷ []) ws) r
note_next b all count w ws ts r whole room e is =
    let rs = map read_of (take count all) in
    let n : length rs ≡ count = count_taken all count (omega arith) in
    ap (notes_in b rs) e ∙ note_first b rs w ws (omega arith) ∙ ap (and_then (λ q. notes_in b (rs ++ q ∷ []) ws)) (ap (λ i. read_in b i w) n ∙ sym is)

pub note_written : (all : List Read) (count : ℕ) (r : Read) → count < length all → map read_of (take count all) ++ read_of r ∷ [] ≡ map read_of (take (count + 1) (set all count r))
note_written all count r within = sym (ap (map read_of) (take_more_set all count r within) ∙ map-append read_of (take count all) (r ∷ []))
