-- The least of all by each of the rows. Assumes nothing.
use Rattle.std.proofs.Common.{◌++◌, refl, sym, ap, ◌∙◌, arith}
use Rattle.std.proofs.lemmas.List.FromFn.{get_or-map-range_with_len}
use Rattle.taps.specs.Readings.{least}
use Rattle.statements.specs.Plain.{plain}
use Rattle.model.specs.Rows.{meeting}
use Rattle.model.proofs.Steps.{ending_row, meeting_row}
use Rattle.plain.specs.Laws.{RowsMeet}
use Rattle.plain.specs.Owed.{plain_states}
use Rattle.plain.specs.Restricted.{state_count}
use Rattle.plain.specs.Rows.{prefix_row}
use Rattle.plain.proofs.Freely.{same_row, whole_least}

pub rows_meet : RowsMeet
unfolding RowsMeet
rows_meet b gs hs = (
  get_or-map-range_with_len (λ before. least b before (gs ++ hs)) 0 (state_count b) 0 0 0 (omega arith) refl,
  ending_row (plain b) (plain_states b) (state_count b) refl (gs ++ hs) ∙ whole_least b (gs ++ hs),
  ap (meeting (state_count b) (prefix_row b gs)) (sym (same_row b hs)) ∙ meeting_row (plain b) (plain_states b) (state_count b) refl gs hs ∙ whole_least b (gs ++ hs),
)
