use Rattle.session.proofs.Desk.{desk_best, desk_keeps, desk_right, desk_stays}
use Rattle.session.proofs.desk_stands.Goals as goal

pub returns : goal.returns
returns c = record { right = desk_right; best = desk_best; keeps = desk_keeps; stays = desk_stays }
