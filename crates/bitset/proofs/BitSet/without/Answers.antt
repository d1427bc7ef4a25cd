use Rattle.std.proofs.Common.{arith}
use Rattle.bitset.proofs.Bits.{bit_taken}
use Rattle.bitset.proofs.BitSet.without.Goals as goal

pub returns : goal.returns
returns c = λ j. bit_taken c.args.i c.bit.result c.args.self.bits j (c.bit.ensures.within, c.bit.ensures.past) (omega arith) (omega arith)
