-- What is read is of the book, and of 255 gaps at most. Assumes nothing.
use Rattle.std.proofs.Common.{◌≡◌, ℕ, ◌<◌, ◌≤◌, true, ◌&&◌, eqb, ltb, List, [], ◌∷◌, ◌++◌, length, Some, None, Option, Ok, Err, inl, inr, refl, sym, ◌∙◌, arith}
use Rattle.std.specs.Prelude.{IfOk, codes, bytes_eq, Result}
use Rattle.std.specs.List.{position}
use Rattle.std.specs.Result.{result_map_both}
use Rattle.std.specs.Option.{ok_or, option_map, option_zip}
use Rattle.std.proofs.lemmas.Bool.{and_from, and_parts, cases_Bool, cond-true, cond-false, lt-ltb, ltb-true}
use Rattle.std.proofs.lemmas.List.{length-append}
use Rattle.tokens.specs.Tokens.{tokens_in}
use Rattle.taps.specs.Readings.{Book, Read, in_book}
use Rattle.taps.specs.Values.{reading_of}
use Rattle.taps.specs.declared.listed.Listed.{Listed}
use Rattle.taps.specs.declared.read.Read as code
use Rattle.text.specs.Laws.{Meant, WithinBook}
use Rattle.text.specs.Notes.{and_then, lightest, note_in, notes_in, read_at, read_in, read_of_note, reading_of_tokens}
use Rattle.text.specs.declared.reading.Unread.{Unread}
use Rattle.text.specs.declared.reading.Unread.TheVariants.{NotInBook, TooMany}
use Rattle.text.proofs.Meant.{kind_meant, place_inside}

abbrev Of : Book → Read → Type 0
Of b r = (r.kind < length b.kinds) × (r.tempo < length b.tempi)

-- by what was found for its ticks and its tempo
found_of : (b : Book) (ticks : ℕ) (k t : Option ℕ) (e : Unread) (r : Read) → Meant b ticks (length b.kinds) k → ((j : ℕ) → t ≡ Some j → j < length b.tempi) → ok_or (option_map read_at (option_zip k t)) e ≡ Ok r → Of b r
found_of b ticks None t e r m inside is = cc
found_of b ticks (Some k) None e r m inside is = cc
found_of b ticks (Some k) (Some t) e r m inside is =
    let same : read_at (k, t) ≡ r = cc in
    rw (← same) (m.0, inside t refl)

read_of : (b : Book) (i : ℕ) (note : Option (ℕ × ℕ)) (r : Read) → read_of_note b i note ≡ Ok r → Of b r
read_of b i None r is = cc
read_of b i (Some note) r is =
    found_of b note.0 (lightest b note.0) (position (λ t. eqb t note.1) b.tempi) (NotInBook i) r (kind_meant b note.0 (length b.kinds)) (λ j. place_inside note.1 b.tempi j) is

book_more : (b : Book) (rs : List Read) (r : Read) → in_book b rs ≡ true → Of b r → in_book b (rs ++ r ∷ []) ≡ true
unfolding in_book
book_more b [] r i o = and_from _ _ (and_from _ _ (lt-ltb _ _ o.0) (lt-ltb _ _ o.1)) refl
book_more b (q ∷ qs) r i o =
    let p = and_parts (ltb q.kind (length b.kinds) && ltb q.tempo (length b.tempi)) (in_book b qs) i in
    and_from _ _ p.0 (book_more b qs r p.1 o)

abbrev Good : Book → List Read → Type 0
Good b rs = (in_book b rs ≡ true) × (length rs ≤ 255)

next_good : (b : Book) (done : List Read) (w : List ℕ) (x : Result Read Unread) (rest : Read → Result (List Read) Unread) (rs : List Read) → Good b done → length done < 255 → ((r : Read) → x ≡ Ok r → Of b r) →
    ((r : Read) → Good b (done ++ r ∷ []) → rest r ≡ Ok rs → Good b rs) → and_then rest x ≡ Ok rs → Good b rs
next_good b done w (Err e) rest rs good room of others is = cc
next_good b done w (Ok r) rest rs good room of others is =
    others r (book_more b done r good.0 (of r refl), omega (arith, room, length-append done (r ∷ []))) is

notes_good : (b : Book) (ws : List (List ℕ)) (done rs : List Read) → Good b done → notes_in b done ws ≡ Ok rs → Good b rs
notes_good b [] done rs good is =
    let same : done ≡ rs = cc in
    rw (← same) good
notes_good b (w ∷ ws) done rs good is =
    let room = ltb (length done) 255 in
    let rest = λ (r : Read). notes_in b (done ++ r ∷ []) ws in
    elim (cases_Bool room) [
      | inl t ↦
          next_good b done w (read_in b (length done) w) rest rs good (ltb-true (length done) 255 t) (λ r. read_of b (length done) (note_in w) r) (λ r g. notes_good b ws (done ++ r ∷ []) rs g)
          (sym (cond-true room (and_then rest (read_in b (length done) w)) (Err TooMany) t) ∙ is)
      | inr t ↦ let bad : Err TooMany ≡ Ok rs = sym (cond-false room (and_then rest (read_in b (length done) w)) (Err TooMany) t) ∙ is in cc
    ]

pub none_good : (b : Book) → Good b []
unfolding in_book
none_good b = (refl, omega arith)

tokens_good : (b : Book) (ws : List (List ℕ)) (rs : List Read) → reading_of_tokens b ws ≡ Ok rs → Good b rs
tokens_good b [] rs is = cc
tokens_good b (w ∷ []) rs is =
    let none = bytes_eq w (codes "none") in
    elim (cases_Bool none) [
      | inl t ↦
          let same : [] ≡ rs = let ok : Ok [] ≡ Ok rs = sym (cond-true none (Ok []) (notes_in b [] (w ∷ [])) t) ∙ is in cc in
          rw (← same) (none_good b)
      | inr t ↦ notes_good b (w ∷ []) [] rs (none_good b) (sym (cond-false none (Ok []) (notes_in b [] (w ∷ [])) t) ∙ is)
    ]
tokens_good b (w ∷ (u ∷ us)) rs is = notes_good b (w ∷ (u ∷ us)) [] rs (none_good b) is

pub within_book : WithinBook
within_book b line rs is = tokens_good b (tokens_in line) rs is

pub notes_of_book : (b : Book) (ws : List (List ℕ)) (r : Result (Listed code.Read 255) Unread) → result_map_both reading_of (λ e. e) r ≡ notes_in b [] ws → IfOk r (λ q. in_book b (reading_of q) ≡ true)
notes_of_book b ws (Ok q) e = (notes_good b ws [] (reading_of q) (none_good b) (sym e)).0
notes_of_book b ws (Err f) e = tt
