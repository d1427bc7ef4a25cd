use Rattle.fit.proofs.Sound.{lowest, earliest, takes}
use Rattle.fit.proofs.fit_stands.Goals as goal

pub returns : goal.returns
returns c = record { lowest = lowest; earliest = earliest; takes = takes }
