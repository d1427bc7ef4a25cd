use Rattle.onsets.proofs.Sound.{none_sound}
use Rattle.pricing.proofs.tap_list.Taps.new.Goals as goal

pub invariant_of-result-clause-sound : goal.invariant_of-result-clause-sound
invariant_of-result-clause-sound c = none_sound 256
