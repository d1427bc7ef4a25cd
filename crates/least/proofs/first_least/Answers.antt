use Rattle.std.proofs.Common.{rules, tests}
use Rattle.std.proofs.lemmas.Iterator.{YieldsList-from_slice}
use Rattle.std.proofs.lemmas.Iterator.Consumers.{YieldsList-from_enumerate}
use Rattle.least.proofs.Picked.{first_kept}
use Rattle.least.proofs.first_least.Goals as goal

pub returns : goal.returns
returns c =
    first_kept c.args.row.now _ c.reduce.result _ (YieldsList-from_enumerate (YieldsList-from_slice c.args.row.now cc) cc) c.reduce.ensures.ran
    (λ x y z q l m h. search (rules, tests)) (search rules)
