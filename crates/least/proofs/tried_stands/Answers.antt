use Rattle.least.proofs.tried_stands.Goals as goal
use Rattle.least.proofs.Trying.{tried_stands}

pub returns : goal.returns
returns g c = tried_stands _ _ _
