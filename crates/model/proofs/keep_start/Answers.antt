use Rattle.std.proofs.Common.{rules, ◌≡◌, ◌++◌, [], length, refl, ap, ◌∙◌, arith}
use Rattle.least.specs.Readers.{along, begin}
use Rattle.model.specs.Rows.{prefix_row}
use Rattle.octets.proofs.Front.{written_on}
use Rattle.model.proofs.Numbers.{row_by}
use Rattle.model.proofs.keep_start.Goals as goal

pub returns-clause-after : goal.returns-clause-after
unfolding along
returns-clause-after g c =
    let size : length c.loop-s.row ≡ g.M.Trellis.count c.args.model.now = search rules in
    let row = row_by (g.M.Trellis.count c.args.model.now) c.loop-s.row (begin (g.M.Trellis.reader c.args.model.now) (g.M.Trellis.states c.args.model.now)) size (λ s h. c.loop-s.invariant s (omega (arith, size, h))) in
    ap (λ xs. xs ++ c.in_ok-kept.field-0-1.now) row
    ∙ written_on [] (prefix_row (g.M.Trellis.reader c.args.model.now) (g.M.Trellis.states c.args.model.now) (g.M.Trellis.count c.args.model.now) []) c.args.kept.now [] c.in_ok-kept.field-0-1.now 0 (g.M.Trellis.count c.args.model.now) refl refl (search (rules, size, row)) (search rules) refl (search rules)
