use Rattle.std.proofs.Common.{◌≡◌, ◌*◌, map, take}
use Rattle.std.specs.List.{flat_map}
use Rattle.octets.proofs.pieces.encode_all.Given as goal

-- so far the items are written, each in N bytes
abbrev pub invariant-loop-i : goal.invariant-loop-i
invariant-loop-i g l = take (g.row.N * l.i) l.out ≡ flat_map g.F.Format.bytes_of (map g.F.Format.value_of (take l.i l.items))
