use Rattle.statements.proofs.Worked.{one_tap_stands}
use Rattle.statements.proofs.one_tap_stands.Goals as goal

pub returns : goal.returns
returns c = one_tap_stands
