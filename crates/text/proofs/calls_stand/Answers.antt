use Rattle.text.proofs.Calls.{calls_read}
use Rattle.text.proofs.calls_stand.Goals as goal

pub returns : goal.returns
returns c = calls_read
