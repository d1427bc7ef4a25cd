use Rattle.pricing.proofs.Held.{sound_after}
use Rattle.pricing.proofs.tap_list.Taps.add.Goals as goal

pub invariant_of-self-clause-sound : goal.invariant_of-self-clause-sound
invariant_of-self-clause-sound c =
    sound_after _ _ _ c.args.self.now.whole c.append.ensures.after c.args.self.now.sound
