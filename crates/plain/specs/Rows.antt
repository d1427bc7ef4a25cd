-- The rows of a plain book, and what is kept of gaps. Assumes nothing: these are definitions.
--
-- row: for each tempo before, 0 where there is none, the least that some gaps cost. rows: the row of all gaps, of all but the first, and so on; last the row of no gap.
-- prefix_row: for each tempo the least of the readings of some gaps that end with it, as the general reader has it; for 0, that there is none, 0 where there is no gap, and
-- `too_much` behind one.
-- local: what a gap costs by itself at each tempo, as the cheapest kind. kept_rows: the prefix row of no gap, and then, for each gap, what it costs by itself and the prefix
-- row of the gaps up to it.
use Rattle.std.specs.Prelude.{ℕ, ◌+◌, ◌*◌, List, [], map, length, Some}
use Rattle.std.specs.List.{range_with_len}
use Rattle.least.specs.Minima.{capped, over}
use Rattle.least.specs.Readers.{prefix}
use Rattle.model.specs.Rows.{states_below, row_of, for_suffixes, for_prefixes, kept_number}
use Rattle.taps.specs.Readings.{Book, too_much, least}
use Rattle.statements.specs.Plain.{plain}
use Rattle.fit.specs.Fit.{fit}
use Rattle.plain.specs.Owed.{plain_states}
use Rattle.plain.specs.Restricted.{state_count, tempo_count}

abbrev pub row : Book → List ℕ → List ℕ
row b gs = map (λ before. least b before gs) (states_below (state_count b))

abbrev pub rows : Book → List ℕ → List ℕ
rows b gs = for_suffixes (row b) gs

abbrev pub prefix_row : Book → List ℕ → List ℕ
prefix_row b gs = row_of (state_count b) (prefix (plain b) (plain_states b) gs)

abbrev pub local : Book → ℕ → List ℕ
local b gap = map (λ t. capped too_much (over (λ k. Some (fit b gap k t)) (range_with_len 0 (length b.kinds)))) (range_with_len 0 (tempo_count b))

abbrev pub kept_rows : Book → List ℕ → List ℕ
kept_rows b gs = for_prefixes (prefix_row b) (local b) [] gs

-- how many numbers are kept of so many gaps, and how many the rows have
abbrev pub kept_size : Book → ℕ → ℕ
kept_size b gaps = kept_number (state_count b) (tempo_count b) gaps

abbrev pub rows_size : Book → ℕ → ℕ
rows_size b gaps = (gaps + 1) * state_count b
