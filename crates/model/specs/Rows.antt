-- Rows of costs as numbers, which of them are kept, and one step from a row to the row beside it. Assumes nothing: these are definitions.
--
-- A model is a general reader (`least/specs/Readers.antt`) whose states are the numbers below some n. A row has a number for each state: a cost, or `too_much`, which no cost
-- is above either, where there is none.
-- suffix_row: for each state what some steps cost from it on. prefix_row: for each state what they cost that end in it.
-- suffix_rows: the suffix rows of all steps, of all but the first, and so on; last the row after all of them, as for_suffixes puts them.
-- kept_rows: the prefix row of no step, and then, for each step, what it costs by itself (local) and the prefix row of the steps up to it, as for_prefixes puts them.
-- backward, forward: the row before a step by the row after it, and the row after it by the row before it.
-- starting, ending, meeting: the least of all by the row before the first step, by the row after the last, and by the two rows between some steps and the others.
use Rattle.std.specs.Prelude.{ℕ, ◌+◌, ◌*◌, List, [], ◌∷◌, ◌++◌, map, Some, Option, slice_index}
use Rattle.std.specs.List.{range_with_len}
use Rattle.least.specs.Minima.{capped, plus, over}
use Rattle.least.specs.Readers.{Reader, States, suffix, prefix, onward}
use Rattle.taps.specs.Readings.{too_much}

abbrev pub states_below : ℕ → List ℕ
states_below n = range_with_len 0 n

-- the numbers of some costs, one for each state
abbrev pub row_of : ℕ → (ℕ → Option ℕ) → List ℕ
row_of n costs = map (λ s. capped too_much (costs s)) (states_below n)

-- the costs that a row's numbers are
abbrev pub costs_in : List ℕ → ℕ → Option ℕ
costs_in row s = Some (slice_index row s)

abbrev pub suffix_row : {G C : Type 0} → Reader G ℕ C → ℕ → List G → List ℕ
suffix_row r n gs = row_of n (λ s. suffix r s gs)

abbrev pub prefix_row : {G C : Type 0} (r : Reader G ℕ C) → States r → ℕ → List G → List ℕ
prefix_row r st n gs = row_of n (prefix r st gs)

-- a row for each suffix of a list, one behind the other: that of the whole list first, and that of the empty list last
unfoldable pub for_suffixes : {G : Type 0} → (List G → List ℕ) → List G → List ℕ
for_suffixes row [] = row []
for_suffixes row (g ∷ gs) = row (g ∷ gs) ++ for_suffixes row gs

abbrev pub suffix_rows : {G C : Type 0} → Reader G ℕ C → ℕ → List G → List ℕ
suffix_rows r n gs = for_suffixes (suffix_row r n) gs

-- the row of `done`; and then for each step what it costs by itself, and the row of `done` and the steps up to it
unfoldable pub for_prefixes : {G : Type 0} → (List G → List ℕ) → (G → List ℕ) → List G → List G → List ℕ
for_prefixes row local done [] = row done
for_prefixes row local done (g ∷ gs) = row done ++ (local g ++ for_prefixes row local (done ++ g ∷ []) gs)

abbrev pub kept_rows : {G C : Type 0} (r : Reader G ℕ C) → States r → ℕ → (G → List ℕ) → List G → List ℕ
kept_rows r st n local gs = for_prefixes (prefix_row r st n) local [] gs

-- how many numbers are kept of so many steps, of which each has w local costs
abbrev pub kept_number : ℕ → ℕ → ℕ → ℕ
kept_number n w steps = steps * (n + w) + n

abbrev pub backward : {G C : Type 0} → Reader G ℕ C → ℕ → G → List ℕ → List ℕ
backward r n g after = row_of n (λ s. over (λ c. plus (r.cost s g c) (costs_in after (r.next s g c))) (r.choices s g))

abbrev pub forward : {G C : Type 0} (r : Reader G ℕ C) → States r → ℕ → G → List ℕ → List ℕ
forward r st n g before = row_of n (onward r st (costs_in before) g)

abbrev pub starting : {G C : Type 0} → Reader G ℕ C → List ℕ → ℕ
starting r row = capped too_much (over (λ s. plus (r.entry s) (costs_in row s)) r.starts)

abbrev pub ending : ℕ → List ℕ → ℕ
ending n row = capped too_much (over (costs_in row) (states_below n))

abbrev pub meeting : ℕ → List ℕ → List ℕ → ℕ
meeting n before after = capped too_much (over (λ s. plus (slice_index before s) (costs_in after s)) (states_below n))
