use Rattle.std.proofs.Common.{arith}
use Rattle.std.proofs.lemmas.Bool.Decides.{nat_tests}
use Rattle.std.proofs.lemmas.Grind.{common_steps}
use Rattle.taps.specs.Calls.{last_of}
use Rattle.taps.proofs.Ends.{last_is}
use Rattle.onsets.proofs.Sound.{small_last}
use Rattle.onsets.proofs.are_sound.Goals as goal

pub returns-then-rise : goal.returns-then-rise
unfolding last_of
returns-then-rise c = grind (arith, nat_tests, common_steps, last_is, small_last)
