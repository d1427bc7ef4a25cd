use Rattle.std.proofs.Common.{eq-eqb}
use Rattle.std.proofs.lemmas.Nat.Bits.{bit_at_ones}
use Rattle.bitset.proofs.BitSet.full.Goals as goal

pub returns : goal.returns
returns c = λ i below. eq-eqb _ _ (bit_at_ones 32 i below)
