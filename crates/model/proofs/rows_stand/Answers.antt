use Rattle.model.proofs.Bounds.{exact_stands}
use Rattle.model.proofs.Steps.{backward_stands, forward_stands, starting_stands, ending_stands, meeting_stands}
use Rattle.model.proofs.Walk.{walked_stands}
use Rattle.model.proofs.rows_stand.Goals as goal

pub returns : goal.returns
returns g c =
    let G = g.row.G.Denot in
    let C = g.row.C.Denot in
    record { backward = backward_stands G C; forward = forward_stands G C; starting = starting_stands G C; ending = ending_stands G C; meeting = meeting_stands G C; exact = exact_stands G C; walked = walked_stands G C }
