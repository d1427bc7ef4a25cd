use Rattle.std.proofs.Common.{rules, ltb, arith}
use Rattle.std.proofs.lemmas.Bool.Decides.{nat_tests}
use Rattle.std.proofs.lemmas.Grind.{common_steps}
use Rattle.std.proofs.lemmas.Fn.{always_returns_same}
use Rattle.taps.specs.Calls.{last_of}
use Rattle.taps.proofs.Ends.{last_is}
use Rattle.taps.proofs.Good.{good_is_sorted}
use Rattle.taps.proofs.tempi.are_good.Goals as goal

pub returns-then-is_none_or : goal.returns-then-is_none_or
unfolding last_of
returns-then-is_none_or c =
    let told = good_is_sorted c.args.tempi.now _ (c.is_sorted_by.ensures.cases ltb (always_returns_same _ _ _ (λ a r f q. search rules))) in
    grind (arith, nat_tests, common_steps, last_is)

pub returns-else-is_none_or : goal.returns-else-is_none_or
returns-else-is_none_or c =
    let told = good_is_sorted c.args.tempi.now _ (c.is_sorted_by.ensures.cases ltb (always_returns_same _ _ _ (λ a r f q. search rules))) in
    grind (arith, nat_tests, common_steps)
