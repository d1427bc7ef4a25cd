use Rattle.std.proofs.Common.{rules, ◌∷◌, ◌++◌, [], ◌≤◌, ap, ◌∙◌}
use Rattle.std.proofs.lemmas.List.{nil_from_length}
use Rattle.std.proofs.lemmas.List.Elements.{All-take, All-append}
use Rattle.least.specs.Readers.{prefix}
use Rattle.taps.specs.Readings.{too_much}
use Rattle.model.specs.Rows.{for_prefixes, prefix_row}
use Rattle.model.proofs.Kept.{prefixes_behind}
use Rattle.model.proofs.Numbers.{row_size}
use Rattle.model.proofs.Tables.{rows_last, rows_before}
use Rattle.model.proofs.+fill_suffix_rows.Goals as goal

pub returns-in_default-clause-rows : goal.returns-in_default-clause-rows
returns-in_default-clause-rows g t c =
    λ done e.
    rows_last (g.M.Trellis.reader c.args.model.now) (g.M.Trellis.count c.args.model.now) c.args.steps.now c.fill.new.self (nil_from_length c.args.steps.now c.in_default.ensures.cases) (search rules)

pub row_before-requires-clause-small : goal.row_before-requires-clause-small
row_before-requires-clause-small g t c = All-take (λ v. v ≤ too_much) _ _ c.fill_suffix_rows.ensures.small

pub returns-clause-small : goal.returns-clause-small
returns-clause-small g t c = All-append (λ v. v ≤ too_much) _ _ c.row_before.ensures.small c.fill_suffix_rows.ensures.small

pub returns-clause-rows : goal.returns-clause-rows
returns-clause-rows g t c =
    λ done e.
    let r = g.M.Trellis.reader c.args.model.now in
    let st = g.M.Trellis.states c.args.model.now in
    let n = g.M.Trellis.count c.args.model.now in
    let more = c.in-Some.ensures.cases.0 in
    let parts =
    prefixes_behind (prefix_row r st n) (g.M.Trellis.local_costs c.args.model.now) n _ (λ gs. row_size n (prefix r st gs)) (g.M.Trellis.local_sized c.args.model.now) done c.in-Some.rest.now c.in-Some.step.now c.args.kept.now
    _ _ _ _ _ (e ∙ ap (for_prefixes (prefix_row r st n) (g.M.Trellis.local_costs c.args.model.now) done) more) c.state_count-width.ensures c.local_count.ensures c.split_at.ensures.back c.split_at-2.ensures.front
    c.split_at-2.ensures.back in
    let rest = c.fill_suffix_rows.ensures.rows (done ++ c.in-Some.step.now ∷ []) parts.1 in
    let row = c.row_before.ensures.row parts.0 in
    rows_before r n st (g.met.M.Trellis.lawful c.args.model.now).below c.args.steps.now c.in-Some.rest.now c.in-Some.step.now c.row_before.new.row c.fill_suffix_rows.new.words more (rw c.state_count-width.ensures at row) rest
