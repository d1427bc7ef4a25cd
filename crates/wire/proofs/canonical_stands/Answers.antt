use Rattle.wire.proofs.Only.{calls_only, answers_only}
use Rattle.wire.proofs.canonical_stands.Goals as goal

pub returns : goal.returns
returns c = record { calls = calls_only; answers = answers_only }
