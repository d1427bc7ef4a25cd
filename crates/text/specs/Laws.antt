-- What was printed reads back. Assumes nothing: these are statements, each named by a function's contract.
--
-- CallsRead: a call that was printed is read as that call. Meant: what kind is meant by so many ticks; KindMeant: `lightest` is it. NoWorse: one reading is printed as another, and costs no more, whatever it is of.
-- ReadingsRead: a reading that was printed is read as one that is no worse. BestRead: so the reading told, printed and read, costs the least. WithinBook: what is read is of the book.
use Rattle.std.specs.Prelude.{◌≡◌, ◌≢◌, ℕ, ◌<◌, ◌≤◌, true, List, length, Some, None, Option, Ok}
use Rattle.taps.specs.Readings.{Book, Read, kind_at, all_cost, in_book, least, reading}
use Rattle.taps.specs.Calls.{taps, back, cost, read}
use Rattle.taps.specs.Promise.{GoodBook, small}
use Rattle.text.specs.Lines.{call_in, call_text, reading_text}
use Rattle.text.specs.Notes.{lightest, reading_in}

-- a time that fits four bytes, too late or not
abbrev pub CallsRead : Type 0
CallsRead =
    ((t : ℕ) → t < 4294967296 → call_in (call_text (taps t)) ≡ Some (taps t))
    × (call_in (call_text back) ≡ Some back)
    × (call_in (call_text cost) ≡ Some cost)
    × (call_in (call_text read) ≡ Some read)

-- of the first n kinds none has so many ticks; or the kind at j has, none that has weighs less, and each before it weighs more
abbrev pub Meant : Book → ℕ → ℕ → Option ℕ → Type 0
Meant b ticks n None = (k : ℕ) → k < n → (kind_at b k).ticks ≢ ticks
Meant b ticks n (Some j) =
    (j < n)
    × ((kind_at b j).ticks ≡ ticks)
    × ((k : ℕ) → k < n → (kind_at b k).ticks ≡ ticks → (kind_at b j).weight ≤ (kind_at b k).weight)
    × ((k : ℕ) → k < j → (kind_at b k).ticks ≡ ticks → (kind_at b j).weight < (kind_at b k).weight)

abbrev pub KindMeant : Type 0
KindMeant = (b : Book) (ticks : ℕ) → Meant b ticks (length b.kinds) (lightest b ticks)

-- ss is no worse than rs: it is of as many gaps, of the book, and printed alike; and no gaps cost more when they are read so, whatever the tempo before them
pub record NoWorse (b : Book) (rs ss : List Read) : Type 0 where
  pub count : length ss ≡ length rs
  pub within : in_book b ss ≡ true
  pub text : reading_text b ss ≡ reading_text b rs
  pub costs : (before : ℕ) (gs : List ℕ) → all_cost b before gs ss ≤ all_cost b before gs rs

abbrev pub ReadingsRead : Type 0
ReadingsRead =
    (b : Book) (rs : List Read) → GoodBook b → in_book b rs ≡ true → length rs ≤ 255 → (ss : List Read) × (reading_in b (reading_text b rs) ≡ Ok ss) × NoWorse b rs ss

abbrev pub BestRead : Type 0
BestRead =
    (b : Book) (gs : List ℕ) → GoodBook b → small gs ≡ true → length gs ≤ 255 →
    (ss : List Read) × (reading_in b (reading_text b (reading b 0 gs)) ≡ Ok ss) × (length ss ≡ length gs) × (all_cost b 0 gs ss ≡ least b 0 gs)

-- whatever the line and the book
abbrev pub WithinBook : Type 0
WithinBook = (b : Book) (line : List ℕ) (rs : List Read) → reading_in b line ≡ Ok rs → (in_book b rs ≡ true) × (length rs ≤ 255)
