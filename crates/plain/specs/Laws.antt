-- What holds of the rows of a plain book. It is a statement: a type, whose proof is owed by the function whose contract names it. Assumes nothing.
--
-- gs, hs: the gaps up to some place, and those behind it; both together are all gaps.
use Rattle.std.specs.Prelude.{◌≡◌, ℕ, List, ◌++◌, slice_index}
use Rattle.model.specs.Rows.{ending, meeting}
use Rattle.taps.specs.Readings.{Book, least}
use Rattle.plain.specs.Restricted.{state_count}
use Rattle.plain.specs.Rows.{row, prefix_row}

-- the least of all is in the row of all gaps where there is no tempo before, it is the least number of the last prefix row, and the least of what leads to some place and what follows it
unfoldable pub RowsMeet : Type 0
RowsMeet =
    (b : Book) (gs hs : List ℕ) →
    (slice_index (row b (gs ++ hs)) 0 ≡ least b 0 (gs ++ hs))
    × (ending (state_count b) (prefix_row b (gs ++ hs)) ≡ least b 0 (gs ++ hs))
    × (meeting (state_count b) (prefix_row b gs) (row b hs) ≡ least b 0 (gs ++ hs))
