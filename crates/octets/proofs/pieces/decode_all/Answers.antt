use Rattle.std.proofs.Common.{map, arith}
use Rattle.std.proofs.lemmas.List.{length-map, get_or-map}
use Rattle.std.proofs.lemmas.List.Folds.{list_all_at}
use Rattle.octets.proofs.pieces.decode_all.Goals as goal

-- a piece that is no item
pub returns-in_err-all : goal.returns-in_err-all
returns-in_err-all g c =
    grind (arith, list_all_at g.F.Format.good (map g.F.Format.value_in c.args.pieces.now) c.loop-i.i (g.F.Format.value_in c.index-pieces-i.result), length-map, get_or-map)
