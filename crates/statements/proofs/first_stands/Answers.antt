use Rattle.statements.proofs.Whole.{first_stands}
use Rattle.statements.proofs.first_stands.Goals as goal

pub returns : goal.returns
returns c = first_stands
