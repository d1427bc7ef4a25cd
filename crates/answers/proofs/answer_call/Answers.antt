use Rattle.std.proofs.Common.{◌-◌, ◌≤◌, length, refl, ap, subst, arith}
use Rattle.std.proofs.lemmas.Bool.Decides.{nat_tests}
use Rattle.taps.specs.Calls.{cost, read, changed, turned, told, place}
use Rattle.taps.specs.Values.{book_of, call_of}
use Rattle.taps.proofs.Good.{book_is_good}
use Rattle.onsets.specs.Onsets.{limit_of, taps_in}
use Rattle.onsets.proofs.Words.{taps_after}
use Rattle.plain.specs.Rows.{kept_size, rows_size}
use Rattle.answers.specs.Answered.{Answerable}
use Rattle.answers.proofs.Kept.{kept_back, kept_asked, held_after}
use Rattle.answers.proofs.Promised.{best_told}
use Rattle.answers.proofs.answer_call.Goals as goal

pub returns-in-Tap-clause-taps : goal.returns-in-Tap-clause-taps
returns-in-Tap-clause-taps c = grind (arith, nat_tests, taps_after c.args.words.now (call_of c.args.call))

pub returns-in-Tap-clause-held : goal.returns-in-Tap-clause-held
returns-in-Tap-clause-held c =
    λ held.
    let large : kept_size (book_of c.args.book.now) (limit_of c.args.words.now - 1) ≤ length c.args.kept.now = grind (arith, nat_tests) in
    held_after (book_of c.args.book.now) c.args.words.now c.args.kept.now _ _ _ held large (c.tap.ensures.after large) (c.tap.ensures.kept held large)

pub returns-in-Back-clause-kept : goal.returns-in-Back-clause-kept
returns-in-Back-clause-kept c = λ held. grind (arith, nat_tests, kept_back (book_of c.args.book.now) (limit_of c.args.words.now) (taps_in c.args.words.now) c.args.kept.now held.starts)

pub returns-in-Back-clause-held : goal.returns-in-Back-clause-held
returns-in-Back-clause-held c =
    λ held.
    let large : kept_size (book_of c.args.book.now) (limit_of c.args.words.now - 1) ≤ length c.args.kept.now = grind (arith, nat_tests) in
    held_after (book_of c.args.book.now) c.args.words.now c.args.kept.now _ _ _ held large c.take_back.ensures.after (kept_back (book_of c.args.book.now) (limit_of c.args.words.now) (taps_in c.args.words.now) c.args.kept.now held.starts)

pub returns-in-Back-clause-value : goal.returns-in-Back-clause-value
unfolding told place
returns-in-Back-clause-value c = λ sure. (grind (arith, nat_tests), grind arith)

pub returns-in-Cost-clause-taps : goal.returns-in-Cost-clause-taps
returns-in-Cost-clause-taps c = grind (arith, nat_tests, taps_after c.args.words.now (call_of c.args.call))

pub returns-in-Cost-clause-kept : goal.returns-in-Cost-clause-kept
unfolding changed
returns-in-Cost-clause-kept c = λ held. grind (arith, nat_tests, kept_asked (book_of c.args.book.now) (limit_of c.args.words.now) (taps_in c.args.words.now) c.args.kept.now held.starts cost refl)

pub returns-in-Cost-clause-value : goal.returns-in-Cost-clause-value
unfolding told turned
returns-in-Cost-clause-value c =
    λ sure.
    let held = subst (Answerable (book_of c.args.book.now) c.args.words.now c.args.kept.now) (ap call_of c.in-Cost.is) sure in
    grind (arith, nat_tests, c.best_cost.ensures held)

pub returns-in-Cost-clause-best : goal.returns-in-Cost-clause-best
returns-in-Cost-clause-best c = best_told _ _ _ _ c.args.call _ (book_is_good c.args.book.now) (omega arith) (returns-in-Cost-clause-value c)

pub returns-in-Read-clause-taps : goal.returns-in-Read-clause-taps
returns-in-Read-clause-taps c = grind (arith, nat_tests, taps_after c.args.words.now (call_of c.args.call))

pub returns-in-Read-clause-kept : goal.returns-in-Read-clause-kept
unfolding changed
returns-in-Read-clause-kept c = λ held. grind (arith, nat_tests, kept_asked (book_of c.args.book.now) (limit_of c.args.words.now) (taps_in c.args.words.now) c.args.kept.now held.starts read refl)

pub returns-in-Read-clause-value : goal.returns-in-Read-clause-value
unfolding told turned
returns-in-Read-clause-value c =
    λ sure.
    let held = subst (Answerable (book_of c.args.book.now) c.args.words.now c.args.kept.now) (ap call_of c.in-Read.is) sure in
    let large : rows_size (book_of c.args.book.now) (limit_of c.args.words.now - 1) ≤ length c.args.rows.now = grind (arith, nat_tests) in
    grind (arith, nat_tests, c.best_reading.ensures.value held large)

pub returns-in-Read-clause-best : goal.returns-in-Read-clause-best
returns-in-Read-clause-best c = best_told _ _ _ _ c.args.call _ (book_is_good c.args.book.now) (omega arith) (returns-in-Read-clause-value c)
