-- Readings as lines: which reading a line is, by a book. Assumes nothing: these are definitions.
--
-- A note is written by ticks and a tempo, as in `12@500`. note_in: the ticks and the tempo that a token is. lightest: the kind that is meant by so many ticks.
-- read_as: the read that ticks and a tempo are, in a book. read_in: the read that a token is, or what is wrong with it. reading_in: the reading that a line is, or what is wrong with its first token that is none.
use Rattle.std.specs.Prelude.{ℕ, zero, suc, ◌+◌, min, Bool, List, [], ◌∷◌, ◌++◌, length, Some, None, Option, Ok, Err, Result, codes, decimal, bytes_eq, ◌==◌, nat_lt, if◌then◌else◌}
use Rattle.std.specs.List.{position}
use Rattle.std.specs.Option.{ok_or, option_map, option_zip}
use Rattle.taps.specs.Readings.{Book, Read, kind_at}
use Rattle.tokens.specs.Tokens.{before, behind, is_byte, number_in, tokens_in}
use Rattle.text.specs.declared.reading.Unread.{Unread}
use Rattle.text.specs.declared.reading.Unread.TheVariants.{Empty, NotANote, NotInBook, TooMany}

abbrev pub is_at : ℕ → Bool
is_at = is_byte 64

-- digits, `@` and digits: without an `@` no digit stands behind it, and a second one is no digit
abbrev pub note_in : List ℕ → Option (ℕ × ℕ)
note_in w = option_zip (number_in (before is_at w)) (number_in (behind is_at w))

-- the kind at the place k, where it is lighter than one found before it, or none was
abbrev pub lighter : Book → Option ℕ → ℕ → Option ℕ
lighter b None k = Some k
lighter b (Some j) k = if nat_lt (kind_at b k).weight (kind_at b j).weight then Some k else Some j

-- of the first n kinds of the book the one with so many ticks that weighs the least, the first of those
abbrev pub lightest_of : Book → ℕ → ℕ → Option ℕ
lightest_of b ticks zero = None
lightest_of b ticks (suc n) = if (kind_at b n).ticks == ticks then lighter b (lightest_of b ticks n) n else lightest_of b ticks n

abbrev pub lightest : Book → ℕ → Option ℕ
lightest b ticks = lightest_of b ticks (length b.kinds)

abbrev pub read_at : ℕ × ℕ → Read
read_at p = record { kind = p.0; tempo = p.1 }

abbrev pub read_as : Book → ℕ × ℕ → Option Read
read_as b note = option_map read_at (option_zip (lightest b note.0) (position (λ t. t == note.1) b.tempi))

-- of a token by its place in the line, from 0
abbrev pub read_of_note : Book → ℕ → Option (ℕ × ℕ) → Result Read Unread
read_of_note b i None = Err (NotANote i)
read_of_note b i (Some note) = ok_or (read_as b note) (NotInBook i)

abbrev pub read_in : Book → ℕ → List ℕ → Result Read Unread
read_in b i w = read_of_note b i (note_in w)

abbrev pub and_then : {A B E : Type 0} → (A → Result B E) → Result A E → Result B E
and_then f (Ok x) = f x
and_then f (Err e) = Err e

-- the reads rs, and then those that the tokens are; 255 at most in all
abbrev pub notes_in : Book → List Read → List (List ℕ) → Result (List Read) Unread
notes_in b rs [] = Ok rs
notes_in b rs (w ∷ ws) = if nat_lt (length rs) 255 then and_then (λ r. notes_in b (rs ++ r ∷ []) ws) (read_in b (length rs) w) else Err TooMany

-- `none` by itself is the reading of no gap
abbrev pub reading_of_tokens : Book → List (List ℕ) → Result (List Read) Unread
reading_of_tokens b [] = Err Empty
reading_of_tokens b (w ∷ []) = if bytes_eq w (codes "none") then Ok [] else notes_in b [] (w ∷ [])
reading_of_tokens b (w ∷ (u ∷ us)) = notes_in b [] (w ∷ (u ∷ us))

abbrev pub reading_in : Book → List ℕ → Result (List Read) Unread
reading_in b line = reading_of_tokens b (tokens_in line)

-- a place from 0 as people count, from 1
abbrev pub counted : ℕ → ℕ
counted i = min (i + 1) 18446744073709551615

-- what is wrong, in plain words
abbrev pub unread_text : Unread → List ℕ
unread_text (NotANote i) = codes "word " ++ (decimal (counted i) ++ codes " is not a note")
unread_text (NotInBook i) = codes "note " ++ (decimal (counted i) ++ codes " is not in the book")
unread_text TooMany = codes "more than 255 notes"
unread_text Empty = codes "no notes"
