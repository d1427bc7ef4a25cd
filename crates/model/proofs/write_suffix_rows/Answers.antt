use Rattle.std.proofs.Common.{rules, ◌≡◌, ◌+◌, ◌*◌, ◌<◌, [], length, take, refl, sym, ap, ◌∙◌, arith}
use Rattle.model.proofs.Kept.{kept_fits, kept_many}
use Rattle.model.proofs.Tables.{rows_size}
use Rattle.model.proofs.write_suffix_rows.Goals as goal

pub returns-in_err-kept_size-clause-rows : goal.returns-in_err-kept_size-clause-rows
returns-in_err-kept_size-clause-rows g c =
    λ starts.
    let fits = kept_fits (g.M.Trellis.reader c.args.model.now) (g.M.Trellis.states c.args.model.now) _ _ _ (g.M.Trellis.local_sized c.args.model.now) c.args.steps.now c.args.kept.now _ refl starts in
    absurd (omega (arith, fits, c.in_err-kept_size.ensures))

pub returns-in_err-kept-clause-rows : goal.returns-in_err-kept-clause-rows
returns-in_err-kept-clause-rows g c =
    λ starts.
    let fits = kept_fits (g.M.Trellis.reader c.args.model.now) (g.M.Trellis.states c.args.model.now) _ _ _ (g.M.Trellis.local_sized c.args.model.now) c.args.steps.now c.args.kept.now _ refl starts in
    absurd (omega (arith, fits, c.in_err-kept.ensures.cases, c.in_ok-kept_size.ensures))

pub returns-in_err-words-clause-rows : goal.returns-in_err-words-clause-rows
returns-in_err-words-clause-rows g c =
    λ starts.
    let size = rows_size (g.M.Trellis.reader c.args.model.now) (g.M.Trellis.count c.args.model.now) c.args.steps.now in
    let short : length c.args.words.now < (length c.args.steps.now + 1) * g.M.Trellis.count c.args.model.now = search rules in
    (search (rules, size, short), search (rules, size, short))

pub returns-clause-rows : goal.returns-clause-rows
returns-clause-rows g c =
    λ starts.
    let r = g.M.Trellis.reader c.args.model.now in
    let n = g.M.Trellis.count c.args.model.now in
    let front : c.in_ok-kept.kept.now ≡ take c.in_ok-kept_size.field-0 c.args.kept.now = search rules in
    let kept_is = front ∙ ap (λ k. take k c.args.kept.now) (c.in_ok-kept_size.ensures ∙ sym (kept_many (g.M.Trellis.reader c.args.model.now) (g.M.Trellis.states c.args.model.now) _ _ _ (g.M.Trellis.local_sized c.args.model.now) c.args.steps.now)) ∙ starts in
    let rows = c.fill_suffix_rows.ensures.rows [] kept_is in
    let size = rows_size r n c.args.steps.now in
    (search (rules, size, rows), search (rules, size, rows))
