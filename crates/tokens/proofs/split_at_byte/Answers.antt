use Rattle.std.proofs.Common.{arith}
use Rattle.tokens.specs.Tokens.{is_byte}
use Rattle.tokens.proofs.Firsts.{place_within}
use Rattle.tokens.proofs.split_at_byte.Goals as goal

pub cut-requires : goal.cut-requires
cut-requires c = omega (arith, place_within (is_byte c.args.byte) c.args.text.now, c.size_before.ensures)
