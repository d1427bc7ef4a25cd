use Rattle.least.proofs.told_stands.Goals as goal
use Rattle.least.proofs.Best.{told_from_stands, told_stands, only_stands}

pub returns : goal.returns
returns g c = record { from = told_from_stands _ _ _; all = told_stands _ _ _; only = only_stands _ _ _ }
