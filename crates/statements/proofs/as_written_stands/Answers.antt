use Rattle.statements.proofs.Written.{as_written_stands}
use Rattle.statements.proofs.as_written_stands.Goals as goal

pub returns : goal.returns
returns c = as_written_stands
