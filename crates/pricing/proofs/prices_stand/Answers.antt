use Rattle.pricing.proofs.Agree.{prices_agree}
use Rattle.pricing.proofs.prices_stand.Goals as goal

pub returns : goal.returns
returns c = prices_agree
