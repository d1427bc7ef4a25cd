use Rattle.session.proofs.Parts.{spares}
use Rattle.session.proofs.memory_stands.Goals as goal

pub returns : goal.returns
returns c = spares
