use Rattle.bitset.proofs.Bits.{bit_has}
use Rattle.bitset.proofs.BitSet.only.Goals as goal

pub returns : goal.returns
returns c = λ j below. bit_has c.args.i c.bit.result j (c.bit.ensures.within, c.bit.ensures.past) below
