use Rattle.statements.proofs.Off.{a_little_off_stands}
use Rattle.statements.proofs.a_little_off_stands.Goals as goal

pub returns : goal.returns
returns c = a_little_off_stands
