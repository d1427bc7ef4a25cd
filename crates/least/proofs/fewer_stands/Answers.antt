use Rattle.least.proofs.fewer_stands.Goals as goal
use Rattle.least.proofs.Imitation.{fewer_stands}

pub returns : goal.returns
returns g c = fewer_stands _ _ _
