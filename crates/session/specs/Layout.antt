-- A desk's memory: which words of two lent slices are the desk's, what they hold, and how they are read. Assumes nothing: these are definitions.
--
-- b: the book. most: the limit of taps. left, right: the words of the two slices that are the desk's, `half b most` of each.
-- asked, room_for: why no desk can be opened. left_opened, right_opened: the words after opening.
-- setup_in: the book and the limit that words were opened with. desk_in: the same, where all else that is looked at in the words at each call is as a desk leaves it.
use Rattle.std.specs.Prelude.{ℕ, ◌+◌, ◌-◌, Bool, ◌&&◌, List, ◌∷◌, length, take, drop, replicate, Some, None, Ok, Err, Option, Result, nat_le, slice_index}
use Rattle.std.specs.List.{flat_map}
use Rattle.taps.specs.Readings.{pick, Book}
use Rattle.taps.specs.declared.refusal.Refusal.{Refusal}
use Rattle.taps.specs.declared.refusal.Refusal.TheVariants.{NoBook, LimitTooLarge, MemoryTooSmall}
use Rattle.octets.specs.Bytes.{eight, chunks, number, written}
use Rattle.books.specs.Books.{book_bytes, book_in}
use Rattle.onsets.specs.Laws.{sound_words}
use Rattle.plain.specs.Rows.{kept_size}

-- what a desk was opened with
pub record Opened : Type 0 where
  pub book : Book
  pub limit : ℕ

-- THE LEFT SLICE. Word 0 is the limit; word 1, how many bytes the book has; these are in the 37 words behind, eight in each, the low one first, and behind them zeros.
-- Then come the words of taps, one for their count and one for each of the limit, and last what is kept of the taps
unfoldable pub book_words : List ℕ → List ℕ
book_words bytes = chunks number 8 37 (written bytes (replicate 296 0))

unfoldable pub head_of : Book → ℕ → List ℕ
head_of b most = most ∷ (length (book_bytes b) ∷ book_words (book_bytes b))

abbrev pub taps_words : ℕ → List ℕ → List ℕ
taps_words most left = take (most + 1) (drop 39 left)

abbrev pub kept_words : ℕ → List ℕ → List ℕ
kept_words most left = drop (most + 1) (drop 39 left)

-- THE RIGHT SLICE is for the rows from the last gap on, and has room for more. Of each slice this many words are asked for
abbrev pub half : Book → ℕ → ℕ
half b most = 39 + (most + 1) + kept_size b (most - 1)

-- and these are the desk's
abbrev pub own : Book → ℕ → List ℕ → List ℕ
own b most words = take (half b most) words

-- what words were opened with, or none, where they can't be read so
abbrev pub book_held : List ℕ → Option Book
book_held left = pick (nat_le (slice_index left 1) 296) (book_in (take (slice_index left 1) (flat_map eight (take 37 (drop 2 left))))) None

abbrev pub opened_with : Option Book → ℕ → Option Opened
opened_with None most = None
opened_with (Some b) most = pick (nat_le most 256) (Some (record { book = b; limit = most })) None

abbrev pub setup_in : List ℕ → Option Opened
setup_in left = pick (nat_le 39 (length left)) (opened_with (book_held left) (slice_index left 0)) None

-- why no desk can be opened, by the first check that fails; or how many words of each slice it asks for
abbrev pub asked : Option Book → ℕ → Result ℕ Refusal
asked None most = Err NoBook
asked (Some b) most = pick (nat_le most 256) (Ok (half b most)) (Err LimitTooLarge)

abbrev pub room_for : Result ℕ Refusal → ℕ → ℕ → Result Unit Refusal
room_for (Err e) left right = Err e
room_for (Ok n) left right = pick (nat_le n left && nat_le n right) (Ok tt) (Err MemoryTooSmall)

-- after opening: no taps
abbrev pub left_opened : Book → ℕ → List ℕ
left_opened b most = written (head_of b most) (replicate (half b most) 0)

abbrev pub right_opened : Book → ℕ → List ℕ
right_opened b most = replicate (half b most) 0

-- what is read of two slices at each call before it is answered: what the desk was opened with, where that can be read, both are long enough, and the taps are as calls leave them
abbrev pub checked : Option Opened → List ℕ → List ℕ → Option Opened
checked None left right = None
checked (Some s) left right =
    let enough : Bool = nat_le (half s.book s.limit) (length left) && nat_le (half s.book s.limit) (length right) in
    pick (enough && sound_words (taps_words s.limit (own s.book s.limit left))) (Some s) None

abbrev pub desk_in : List ℕ → List ℕ → Option Opened
desk_in left right = checked (setup_in left) left right
