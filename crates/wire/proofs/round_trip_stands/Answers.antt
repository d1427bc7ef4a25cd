use Rattle.wire.proofs.Returns.{calls_return, answers_return}
use Rattle.wire.proofs.round_trip_stands.Goals as goal

pub returns : goal.returns
returns c = record { calls = calls_return; answers = answers_return }
