use Rattle.least.proofs.meets_stands.Goals as goal
use Rattle.least.proofs.Meet.{meets_stands}

pub returns : goal.returns
returns g c = meets_stands _ _ _
