use Rattle.std.proofs.Common.{arith}
use Rattle.std.proofs.lemmas.Bool.Decides.{nat_tests}
use Rattle.onsets.proofs.Words.{last_some}
use Rattle.onsets.proofs.after_last.Goals as goal

pub returns : goal.returns
returns c = grind (arith, nat_tests, last_some)
