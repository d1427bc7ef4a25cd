use Rattle.std.proofs.Common.{◌≡◌, ◌≤◌, length, map, take, drop}
use Rattle.model.proofs.Walk.{Reached}
use Rattle.model.proofs.first_reading.Given as goal

-- the first i steps are read
abbrev pub invariant-loop-i : goal.invariant-loop-i
invariant-loop-i g l = record {
  reached : Reached (g.M.Trellis.reader l.model) (g.M.Trellis.count l.model) l.fn.state l.step-items (drop l.i l.step-items) l.fn.rows l.rows (map g.M.Trellis.choice_of (take l.i l.all)) l.state;
  whole : length l.all ≡ g.row.N;
  count : length l.step-items ≤ g.row.N;
}
