use Rattle.least.proofs.begins_stands.Goals as goal
use Rattle.least.proofs.Parts.{begins_stands}

pub returns : goal.returns
returns g c = begins_stands _ _ _
