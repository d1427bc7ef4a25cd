use Rattle.std.proofs.Common.{length}
use Rattle.model.proofs.+fill_suffix_rows.Given as goal

-- proposed from what the function passes where it calls itself
abbrev pub decreases-fill_suffix_rows : goal.decreases-fill_suffix_rows
decreases-fill_suffix_rows g l = length l.steps.now
