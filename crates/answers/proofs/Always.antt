-- Every call is answered, where there is room; so where as many words are lent as any rows take. Assumes nothing.
use Rattle.std.proofs.Common.{◌≡◌, ℕ, ◌-◌, true, refl, arith}
use Rattle.std.proofs.lemmas.Bool.Decides.{nat_tests}
use Rattle.taps.specs.Readings.{Book}
use Rattle.taps.specs.Calls as calls
use Rattle.plain.proofs.Room.{most_room}
use Rattle.answers.specs.Answered.{roomy, answered}
use Rattle.answers.specs.Laws.{AlwaysAnswered}

-- what is no call is always answered, and calls are where there is room
pub where_roomy : (b : Book) (most kept rows : ℕ) (c : calls.Call) → roomy b most kept rows ≡ true → answered b most kept rows c ≡ true
where_roomy b most kept rows (calls.taps t) room = room
where_roomy b most kept rows calls.back room = room
where_roomy b most kept rows calls.cost room = room
where_roomy b most kept rows calls.read room = room
where_roomy b most kept rows (calls.garbled p) room = refl

pub always_answered : AlwaysAnswered
unfolding AlwaysAnswered
always_answered b most kept rows c good few kept_room rows_room =
    let room = most_room b (most - 1) (omega arith) good.4 in
    where_roomy b most kept rows c (grind (arith, nat_tests, room))
