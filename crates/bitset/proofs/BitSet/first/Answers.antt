use Rattle.std.proofs.Common.{rules, ◌≡◌, arith}
use Rattle.std.specs.Option.{IfSome}
use Rattle.std.specs.Int.{trailing_zeros, w32}
use Rattle.bitset.proofs.Bits.{lowest_first}
use Rattle.bitset.proofs.BitSet.first.Goals as goal

pub returns : goal.returns
returns c =
    let lowest : IfSome c.then.result (λ r. r ≡ trailing_zeros w32 c.args.self.bits) = search rules in
    lowest_first c.args.self.bits c.then.result (omega arith) c.then.ensures.variant lowest
