-- The plain book as a general reader, and what that says of the definitions of readings. Assumes nothing.
--
-- A step is a gap; a state is the tempo before, as `before` is; a choice is a Read, kinds first and then tempi.
-- Plain, Finite: readings, the least and the reading told are the general reader's, so that all of its laws hold of them. Tried: they are what trying all readings gives.
use Rattle.std.specs.Prelude.{◌≡◌, ℕ, suc, ◌<◌, true, List, [], ◌∷◌, map, length, Some}
use Rattle.std.specs.List.{range_with_len}
use Rattle.least.specs.Minima.{capped, over, joined, cheapest}
use Rattle.least.specs.Readers.{Reader, Reads, total, suffix, told, readings, States}
use Rattle.taps.specs.Readings.{Book, Read, costs, all_cost, in_book, too_much, least, reading}

abbrev pub read : ℕ → ℕ → Read
read k t = record { kind = k; tempo = t }

-- what a gap may be read as, as some of the kinds and as all of them: kinds first, and then tempi
abbrev pub reads_of : Book → List ℕ → List Read
reads_of b ks = joined (λ k. map (read k) (range_with_len 0 (length b.tempi))) ks

abbrev pub all_reads : Book → List Read
all_reads b = reads_of b (range_with_len 0 (length b.kinds))

abbrev pub plain : Book → Reader ℕ ℕ Read
plain b = record { starts = 0 ∷ []; entry = λ _. 0; choices = λ _ _. all_reads b; cost = costs b; next = λ _ _ r. suc r.tempo }

-- the definitions and the general reader have the same readings, at the same costs, and the same least; and the same reading is told where the least is below what its loops start with
pub record Same (b : Book) (before : ℕ) (gs : List ℕ) : Type 0 where
  pub reads_book : (rs : List Read) → Reads (plain b) before gs rs → (length rs ≡ length gs) × (in_book b rs ≡ true)
  pub book_reads : (rs : List Read) → length rs ≡ length gs → in_book b rs ≡ true → Reads (plain b) before gs rs
  pub same_total : (rs : List Read) → total (plain b) before gs rs ≡ all_cost b before gs rs
  pub same_least : least b before gs ≡ capped too_much (suffix (plain b) before gs)
  pub same_reading : least b before gs < too_much → told (plain b) before gs ≡ Some (reading b before gs)

unfoldable pub Plain : Type 0
Plain = (b : Book) (before : ℕ) (gs : List ℕ) → Same b before gs

-- its states are finitely many: no tempo before, or one of the book's
unfoldable pub Finite : Type 0
Finite = (b : Book) → (st : States (plain b)) × (st.all ≡ range_with_len 0 (suc (length b.tempi)))

-- the same by trying all readings in their order
unfoldable pub Tried : Type 0
Tried =
    (b : Book) (gs : List ℕ) →
    (least b 0 gs ≡ capped too_much (over (λ rs. Some (all_cost b 0 gs rs)) (readings (plain b) 0 gs)))
    × (least b 0 gs < too_much → Some (reading b 0 gs) ≡ cheapest (λ rs. Some (all_cost b 0 gs rs)) (readings (plain b) 0 gs))
