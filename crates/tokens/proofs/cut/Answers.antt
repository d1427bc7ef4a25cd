use Rattle.std.proofs.Common.{sym, ◌∙◌}
use Rattle.tokens.proofs.Firsts.{drop_next}
use Rattle.tokens.proofs.cut.Goals as goal

pub returns-in-Some-clause-behind : goal.returns-in-Some-clause-behind
returns-in-Some-clause-behind c =
    drop_next c.args.text.now c.args.place c.in-Some.field-0-0.now c.in-Some.behind.now (sym c.split_at.ensures.back ∙ c.in-Some.ensures.cases.0)
