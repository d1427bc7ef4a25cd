use Rattle.plain.proofs.Meeting.{rows_meet}
use Rattle.plain.proofs.rows_meet_stands.Goals as goal

pub returns : goal.returns
returns c = rows_meet
