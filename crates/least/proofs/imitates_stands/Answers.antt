use Rattle.least.proofs.imitates_stands.Goals as goal
use Rattle.least.proofs.Imitation.{imitates_stands}

pub returns : goal.returns
returns g c = imitates_stands _ _ _ _ _ _
