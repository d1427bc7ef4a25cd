use Rattle.std.proofs.Common.{rules, Some, ap, ◌∙◌, arith}
use Rattle.least.specs.Readers.{prefix}
use Rattle.model.specs.Rows.{ending}
use Rattle.model.proofs.Kept.{kept_fits, kept_last}
use Rattle.model.proofs.Numbers.{row_size, row_small}
use Rattle.model.proofs.Steps.{least_in, ending_row}
use Rattle.model.proofs.kept_cost.Goals as goal

pub returns-in_err-end-clause-value : goal.returns-in_err-end-clause-value
returns-in_err-end-clause-value g c =
    λ gs many starts.
    let fits = kept_fits (g.M.Trellis.reader c.args.model.now) (g.M.Trellis.states c.args.model.now) _ _ _ (g.M.Trellis.local_sized c.args.model.now) gs c.args.kept.now c.args.done many starts in
    absurd (omega (arith, fits, c.in_err-end.ensures))

pub returns-in_err-front-clause-value : goal.returns-in_err-front-clause-value
returns-in_err-front-clause-value g c =
    λ gs many starts.
    let fits = kept_fits (g.M.Trellis.reader c.args.model.now) (g.M.Trellis.states c.args.model.now) _ _ _ (g.M.Trellis.local_sized c.args.model.now) gs c.args.kept.now c.args.done many starts in
    absurd (omega (arith, fits, c.in_err-front.ensures.cases, c.in_ok-end.ensures))

pub returns-clause-value : goal.returns-clause-value
returns-clause-value g c =
    λ gs many starts.
    let n = g.M.Trellis.count c.args.model.now in
    let costs = prefix (g.M.Trellis.reader c.args.model.now) (g.M.Trellis.states c.args.model.now) gs in
    let row = kept_last (g.M.Trellis.reader c.args.model.now) (g.M.Trellis.states c.args.model.now) _ _ _ (g.M.Trellis.local_sized c.args.model.now) gs c.args.kept.now c.args.done many starts _ _ _ _ c.in_ok-end.ensures c.state_count.ensures (search rules) c.split_at.ensures.back in
    ap Some (c.unwrap_or.ensures ∙ least_in n _ _ c.least_of.ensures (rw row (row_size n costs)) (rw row (row_small n costs)) ∙ ap (ending n) row ∙ ending_row (g.M.Trellis.reader c.args.model.now) (g.M.Trellis.states c.args.model.now) n (g.met.M.Trellis.lawful c.args.model.now).below gs)
