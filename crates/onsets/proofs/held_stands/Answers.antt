use Rattle.onsets.proofs.Sound.{follows, keeps_limit, stays_sound, small_gaps}
use Rattle.onsets.proofs.held_stands.Goals as goal

pub returns : goal.returns
returns c = record { follows = follows; limit = keeps_limit; sound = stays_sound; gaps = small_gaps }
