use Rattle.std.proofs.Common.{◌≡◌, ◌-◌, ◌<◌, [], Some, length, take, sym, ap, subst, ◌∙◌, arith}
use Rattle.std.specs.Option.{option_map}
use Rattle.std.proofs.lemmas.Bool.{both_ways}
use Rattle.std.proofs.lemmas.Bool.Decides.{nat_tests}
use Rattle.std.proofs.lemmas.List.{length-map, length-take}
use Rattle.octets.specs.Bytes.{StartsWith, room, written}
use Rattle.taps.specs.Calls.{gaps}
use Rattle.taps.specs.Items.{items}
use Rattle.taps.specs.Readings.{reading}
use Rattle.taps.specs.Values.{book_of}
use Rattle.taps.proofs.Between.{length_gaps}
use Rattle.onsets.specs.Onsets.{limit_of, taps_in}
use Rattle.onsets.proofs.Sound.{gaps_small}
use Rattle.plain.specs.Restricted.{gaps_of}
use Rattle.plain.specs.Rows.{kept_rows, rows}
use Rattle.plain.proofs.Room.{rows_room}
use Rattle.answers.proofs.Kept.{kept_some, rows_some}
use Rattle.answers.proofs.best_reading.Goals as goal

pub returns-in_err-steps-clause-value : goal.returns-in_err-steps-clause-value
returns-in_err-steps-clause-value c = λ held large. absurd (both_ways _ c.in_err-steps.ensures (gaps_small _ held.sound.timely))

pub returns-in_err-steps-clause-rows : goal.returns-in_err-steps-clause-rows
returns-in_err-steps-clause-rows c = λ held large. absurd (both_ways _ c.in_err-steps.ensures (gaps_small _ held.sound.timely))

pub returns-then-steps-eq0-clause-value : goal.returns-then-steps-eq0-clause-value
unfolding reading
returns-then-steps-eq0-clause-value c =
    λ held large.
    let none : gaps (taps_in c.args.words.now) ≡ [] = sym c.in_ok-steps.ensures.1 ∙ ap (λ n. gaps_of (take n c.in_ok-steps.steps.all)) c.if-steps-eq0.true in
    ap Some (sym (ap (reading (book_of c.args.book.now) 0) none))

pub returns-clause-value : goal.returns-clause-value
returns-clause-value c =
    λ held large.
    let b = book_of c.args.book.now in
    let ts = taps_in c.args.words.now in
    let same = c.in_ok-steps.ensures.1 in
    let some : 0 < length (gaps ts) = omega (arith, ap length same, length-map (items c.in_ok-steps.steps) (λ g. g.gap), length-take c.in_ok-steps.steps.count c.in_ok-steps.steps.all, c.in_ok-steps.steps.whole, c.in_ok-steps.steps.few, c.if-steps-eq0.false) in
    let front = kept_some b ts (omega (arith, length_gaps ts, some)) ∙ ap (kept_rows b) (sym same) in
    let starts = subst (λ xs. StartsWith xs c.args.kept.now) front held.starts in
    let fits = rows_room b (gaps ts) (limit_of c.args.words.now - 1) (omega (arith, length_gaps ts, held.sound.few)) in
    let room_is : room (rows b (gaps ts)) c.args.rows.now ≡ Some (length (rows b (gaps ts))) = grind (arith, nat_tests, fits, large) in
    c.first_reading.ensures.value starts
    ∙ ap (λ gs. option_map (λ _. reading b 0 gs) (room (rows b gs) c.args.rows.now)) same
    ∙ ap (option_map (λ _. reading b 0 (gaps ts))) room_is

pub returns-clause-rows : goal.returns-clause-rows
returns-clause-rows c =
    λ held large.
    let b = book_of c.args.book.now in
    let ts = taps_in c.args.words.now in
    let same = c.in_ok-steps.ensures.1 in
    let some : 0 < length (gaps ts) = omega (arith, ap length same, length-map (items c.in_ok-steps.steps) (λ g. g.gap), length-take c.in_ok-steps.steps.count c.in_ok-steps.steps.all, c.in_ok-steps.steps.whole, c.in_ok-steps.steps.few, c.if-steps-eq0.false) in
    let front = kept_some b ts (omega (arith, length_gaps ts, some)) ∙ ap (kept_rows b) (sym same) in
    let starts = subst (λ xs. StartsWith xs c.args.kept.now) front held.starts in
    c.first_reading.ensures.after starts ∙ ap (λ gs. written (rows b gs) c.args.rows.now) same ∙ sym (rows_some b (gaps ts) c.args.rows.now some)
