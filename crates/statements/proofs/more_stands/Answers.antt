use Rattle.statements.proofs.More.{more_stands}
use Rattle.statements.proofs.more_stands.Goals as goal

pub returns : goal.returns
returns c = more_stands
