use Rattle.statements.proofs.Worked.{two_taps_stands}
use Rattle.statements.proofs.two_taps_stands.Goals as goal

pub returns : goal.returns
returns c = two_taps_stands
