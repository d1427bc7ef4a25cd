use Rattle.std.proofs.Common.{◌≡◌, ◌+◌, ◌<◌, ◌≤◌, [], ◌∷◌, length, map, take, Some, refl, sym, ap, ◌∙◌, arith}
use Rattle.std.specs.Option.{option_map}
use Rattle.std.proofs.lemmas.Grind.{take-set_at}
use Rattle.std.proofs.lemmas.List.{length-replicate, length-set, length-take, length-take-le, map-append, drop_all}
use Rattle.least.proofs.Minimal.{first_from}
use Rattle.taps.specs.Items.{items}
use Rattle.model.specs.Walk.{walked}
use Rattle.model.proofs.Walk.{reached_start, reached_end, next_below, row_there, row_behind, reached_more, reached_none}
use Rattle.model.proofs.first_reading.Goals as goal

pub loop-i-init : goal.loop-i-init
loop-i-init g c =
    record {
      reached = reached_start _ _ _ _ _ c.requires.state (rw c.as_slice-step-items.ensures c.requires.rows);
      whole = length-replicate g.row.N c.blank-all.result;
      count = omega (arith, ap length c.as_slice-step-items.ensures, length-take c.args.steps.now.count c.args.steps.now.all, c.args.steps.now.few);
    }

pub split_at-requires : goal.split_at-requires
split_at-requires g c =
    row_there _ _ _ _ _ _ _ _ _ _ c.loop-i.invariant.reached c.loop-i-test.true c.step-item.is _ c.state_count-width.ensures

pub slice_bounds-first_met-end : goal.slice_bounds-first_met-end
slice_bounds-first_met-end g c =
    sym (length-take-le _ _ (row_behind _ _ _ _ _ _ _ _ _ _ c.loop-i.invariant.reached c.loop-i-test.true c.step-item.is _ _ _ c.state_count-width.ensures c.split_at.ensures.front c.split_at.ensures.back))

pub first_met-requires-clause-size : goal.first_met-requires-clause-size
first_met-requires-clause-size g c =
    length-take-le _ _ (row_behind _ _ _ _ _ _ _ _ _ _ c.loop-i.invariant.reached c.loop-i-test.true c.step-item.is _ _ _ c.state_count-width.ensures c.split_at.ensures.front c.split_at.ensures.back) ∙ c.state_count-width.ensures

pub returns-in_err-read : goal.returns-in_err-read
returns-in_err-read g c =
    let met = sym c.first_met.ensures ∙ ap (option_map g.M.Trellis.choice_of) c.in_err-read.was in
    let none = reached_none _ _ _ _ _ _ _ _ _ _ c.loop-i.invariant.reached c.loop-i-test.true c.step-item.is _ _ _ c.state_count-width.ensures c.split_at.ensures.front c.split_at.ensures.back met in
    ap (option_map (λ l. map g.M.Trellis.choice_of (items l))) c.from_residual.ensures ∙ sym none ∙ ap (λ gs. walked (g.M.Trellis.reader c.args.model.now) (g.M.Trellis.count c.args.model.now) c.args.state gs c.args.rows.now) c.as_slice-step-items.ensures

pub next_state-state-requires-clause-among : goal.next_state-state-requires-clause-among
next_state-state-requires-clause-among g c =
    (first_from _ _ _ (sym c.first_met.ensures ∙ ap (option_map g.M.Trellis.choice_of) c.in_ok-read.was)).0

pub loop-i-preserved : goal.loop-i-preserved
loop-i-preserved g c =
    let met = sym c.first_met.ensures ∙ ap (option_map g.M.Trellis.choice_of) c.in_ok-read.was in
    let list =
    ap (map g.M.Trellis.choice_of) (take-set_at c.loop-i.all c.loop-i.i (c.loop-i.i + 1) c.in_ok-read.read refl (omega (arith, c.loop-i.invariant, c.loop-i-test.true)))
    ∙ map-append g.M.Trellis.choice_of (take c.loop-i.i c.loop-i.all) (c.in_ok-read.read ∷ []) in
    let next =
    next_below _ (g.M.Trellis.states c.args.model.now) _ (g.met.M.Trellis.lawful c.args.model.now).below c.loop-i.state c.step-item.result _ c.loop-i.invariant.reached.inside
    (first_from _ _ _ met).0 in
    let within : c.next_state-state.result < g.M.Trellis.count c.args.model.now = omega (arith, next, c.next_state-state.ensures) in
    record {
      reached = reached_more _ _ _ _ _ _ _ _ _ _ c.loop-i.invariant.reached c.loop-i-test.true c.step-item.is _ _ _ c.state_count-width.ensures c.split_at.ensures.front c.split_at.ensures.back _ _ _ met list c.next_state-state.ensures within;
      whole = length-set c.loop-i.all c.loop-i.i c.in_ok-read.read ∙ c.loop-i.invariant.whole;
      count = c.loop-i.invariant.count;
    }

pub returns : goal.returns
returns g c =
    let all : length c.as_slice-step-items.result.now ≤ c.loop-i.i = omega (arith, c.loop-i-test.false) in
    let end = reached_end _ _ _ _ _ _ _ _ _ c.loop-i.invariant.reached (drop_all c.loop-i.i c.as_slice-step-items.result.now all) in
    let read : c.loop-i.i ≡ c.args.steps.now.count = omega (arith, all, c.loop-i.auto.i-end, ap length c.as_slice-step-items.ensures, length-take c.args.steps.now.count c.args.steps.now.all, c.args.steps.now.few, c.args.steps.now.whole) in
    ap (λ n. Some (map g.M.Trellis.choice_of (take n c.loop-i.all))) (sym read) ∙ end ∙ ap (λ gs. walked (g.M.Trellis.reader c.args.model.now) (g.M.Trellis.count c.args.model.now) c.args.state gs c.args.rows.now) c.as_slice-step-items.ensures
