use Rattle.statements.proofs.Later.{later_stands}
use Rattle.statements.proofs.later_stands.Goals as goal

pub returns : goal.returns
returns c = later_stands
