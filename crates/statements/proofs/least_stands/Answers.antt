use Rattle.statements.proofs.Whole.{least_stands}
use Rattle.statements.proofs.least_stands.Goals as goal

pub returns : goal.returns
returns c = least_stands
