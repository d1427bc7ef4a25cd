use Rattle.statements.proofs.Plain.{plain_stands, finite_stands, tried_stands}
use Rattle.statements.proofs.plain_stands.Goals as goal

pub returns : goal.returns
returns c = record { same = plain_stands; finite = finite_stands; tried = tried_stands }
