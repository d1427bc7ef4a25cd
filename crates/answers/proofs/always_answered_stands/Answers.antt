use Rattle.answers.proofs.Always.{always_answered}
use Rattle.answers.proofs.always_answered_stands.Goals as goal

pub returns : goal.returns
returns c = always_answered
