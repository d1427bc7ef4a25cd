-- Books as lists of bytes: what a book is written as, and which book a list of bytes is. Assumes nothing: these are definitions.
--
-- book_bytes: what is written. book_in: the book that bytes are, or none.
use Rattle.std.specs.Prelude.{ℕ, ◌+◌, ◌*◌, Bool, ◌&&◌, List, ◌∷◌, ◌++◌, length, drop, Some, None, Option, ◌==◌, nat_le, nat_lt, slice_index}
use Rattle.std.specs.List.{flat_map}
use Rattle.taps.specs.Readings.{pick, Kind, Book}
use Rattle.taps.specs.Promise.{good_kinds, good_tempi}
use Rattle.octets.specs.Bytes.{two, four, chunks, number}

-- a kind: its ticks, and its weight in four bytes
abbrev pub kind_bytes : Kind → List ℕ
kind_bytes k = k.ticks ∷ four k.weight

abbrev pub kind_in : List ℕ → Kind
kind_in five = record { ticks = slice_index five 0; weight = number (drop 1 five) }

-- how many kinds there are, and each; how many tempi there are, each in two bytes; the change in four bytes. Nothing follows
abbrev pub book_bytes : Book → List ℕ
book_bytes b = length b.kinds ∷ (flat_map kind_bytes b.kinds ++ (length b.tempi ∷ (flat_map two b.tempi ++ four b.change)))

-- n kinds of good ticks and weights; m tempi that rise within bounds
abbrev pub kinds_good : ℕ → List Kind → Bool
kinds_good n ks = (nat_lt 0 n && nat_le n 32) && good_kinds ks

abbrev pub tempi_good : ℕ → List ℕ → Bool
tempi_good m ts = (nat_lt 0 m && nat_le m 64) && good_tempi ts

-- the book of n kinds and m tempi that the bytes are, if they are exactly as many as it asks for and all of it is within a book's bounds
abbrev pub counted_book : List ℕ → ℕ → ℕ → Option Book
counted_book all n m =
    let tempi-at : ℕ = 1 + 5 * n in
    let change-at : ℕ = 1 + tempi-at + 2 * m in
    let ks : List Kind = chunks kind_in 5 n (drop 1 all) in
    let ts : List ℕ = chunks number 2 m (drop (1 + tempi-at) all) in
    let c : ℕ = number (drop change-at all) in
    pick (length all == change-at + 4 && ((kinds_good n ks && tempi_good m ts) && nat_lt c 65536)) (Some (record { kinds = ks; tempi = ts; change = c })) None

-- the counts stand at the front and behind the kinds
abbrev pub book_in : List ℕ → Option Book
book_in all = counted_book all (slice_index all 0) (slice_index all (1 + 5 * slice_index all 0))
