use Rattle.wire.proofs.Returns.{calls_apart, answers_apart}
use Rattle.wire.proofs.bytes_apart_stands.Goals as goal

pub returns : goal.returns
returns c = record { calls = calls_apart; answers = answers_apart }
