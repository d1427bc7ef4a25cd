use Rattle.std.proofs.Common.{◌≡◌, true, map, length, take}
use Rattle.std.specs.List.{list_all}
use Rattle.octets.proofs.pieces.decode_all.Given as goal

-- so far each piece is an item
abbrev pub invariant-loop-i : goal.invariant-loop-i
invariant-loop-i g l = record {
  whole : length l.all ≡ g.row.MOST;
  filled : map g.F.Format.value_of (take l.i l.all) ≡ map g.F.Format.value_in (take l.i l.pieces);
  good : list_all g.F.Format.good (map g.F.Format.value_in (take l.i l.pieces)) ≡ true;
}
