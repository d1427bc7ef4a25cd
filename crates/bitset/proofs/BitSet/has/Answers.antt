use Rattle.std.proofs.Common.{arith}
use Rattle.bitset.proofs.Bits.{bit_tests}
use Rattle.bitset.proofs.BitSet.has.Goals as goal

pub returns : goal.returns
returns c = bit_tests c.args.i c.bit.result c.args.self.bits (c.bit.ensures.within, c.bit.ensures.past) (omega arith)
