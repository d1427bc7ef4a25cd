use Rattle.std.proofs.Common.{rules, ◌+◌, arith}
use Rattle.std.proofs.Math.Nat.{add-mul}
use Rattle.std.proofs.lemmas.Bool.Decides.{nat_tests}
use Rattle.model.proofs.Kept.{kept_on}
use Rattle.model.proofs.keep_step.Goals as goal

pub returns-in_err-end-clause-value : goal.returns-in_err-end-clause-value
returns-in_err-end-clause-value g c = grind (arith, nat_tests, add-mul c.args.done 1 (g.M.Trellis.count c.args.model.now + g.M.Trellis.local_size c.args.model.now))

pub returns-in_err-kept-clause-value : goal.returns-in_err-kept-clause-value
returns-in_err-kept-clause-value g c = grind (arith, nat_tests, add-mul c.args.done 1 (g.M.Trellis.count c.args.model.now + g.M.Trellis.local_size c.args.model.now))

pub returns-in_err-more-clause-value : goal.returns-in_err-more-clause-value
returns-in_err-more-clause-value g c = grind (arith, nat_tests, add-mul c.args.done 1 (g.M.Trellis.count c.args.model.now + g.M.Trellis.local_size c.args.model.now))

pub returns-in_err-behind-clause-value : goal.returns-in_err-behind-clause-value
returns-in_err-behind-clause-value g c = grind (arith, nat_tests, add-mul c.args.done 1 (g.M.Trellis.count c.args.model.now + g.M.Trellis.local_size c.args.model.now))

pub returns-clause-value : goal.returns-clause-value
returns-clause-value g c = grind (arith, nat_tests, add-mul c.args.done 1 (g.M.Trellis.count c.args.model.now + g.M.Trellis.local_size c.args.model.now))

pub returns-clause-after : goal.returns-clause-after
returns-clause-after g c =
    λ gs many starts.
    kept_on (g.M.Trellis.reader c.args.model.now) (g.M.Trellis.states c.args.model.now) _ _ _ (g.M.Trellis.local_sized c.args.model.now) gs c.args.kept.now c.args.done many starts (g.met.M.Trellis.lawful c.args.model.now).below c.args.step
    c.in_ok-kept.front.now _ _ _ c.in_ok-behind.field-0-1.now c.in_ok-end.end c.in_ok-more.more c.state_count-width.result c.in_ok-end.ensures (search rules) c.state_count-width.ensures (search rules) c.split_at.ensures.back c.write_local.ensures (c.row_after.ensures c.write_local.ensures)
    (search rules) (search rules)
