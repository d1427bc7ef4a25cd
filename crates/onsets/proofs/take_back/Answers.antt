use Rattle.std.proofs.Common.{arith}
use Rattle.std.proofs.lemmas.Bool.Decides.{nat_tests}
use Rattle.taps.specs.Calls.{back, turned}
use Rattle.onsets.proofs.Words.{stands}
use Rattle.onsets.proofs.take_back.Goals as goal

pub returns-clause-after : goal.returns-clause-after
unfolding turned
returns-clause-after c = grind (arith, nat_tests)

pub returns-clause-taps : goal.returns-clause-taps
returns-clause-taps c = stands _ _ back (returns-clause-after c)
