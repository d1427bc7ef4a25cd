use Rattle.std.proofs.Common.{rules, ◌≡◌, ◌+◌, ◌-◌, Some, length, subst, arith}
use Rattle.octets.specs.Bytes.{StartsWith}
use Rattle.taps.specs.Calls.{gaps}
use Rattle.taps.specs.Values.{book_of}
use Rattle.taps.proofs.Between.{length_gaps}
use Rattle.onsets.specs.Onsets.{taps_in, last_in}
use Rattle.onsets.proofs.Sound.{gaps_small}
use Rattle.answers.proofs.Kept.{some_taps, kept_some, small_short, start_fits, gap_fits, start_kept, gap_kept, told_then}
use Rattle.answers.proofs.keep.Goals as goal

pub returns-in_default-clause-value : goal.returns-in_default-clause-value
returns-in_default-clause-value c =
    λ taken large. start_fits (book_of c.args.book.now) _ (taps_in c.args.words.now) c.args.time c.args.kept.now taken large _ c.keep_start.ensures.value

pub returns-in_default-clause-after : goal.returns-in_default-clause-after
returns-in_default-clause-after c =
    λ held taken large. start_kept (book_of c.args.book.now) (taps_in c.args.words.now) c.args.time c.args.kept.now _ (search rules) c.keep_start.ensures.after

pub returns-clause-value : goal.returns-clause-value
returns-clause-value c =
    λ taken large.
    let last : last_in (taps_in c.args.words.now) ≡ Some c.in-Some.last = search rules in
    let some = some_taps (taps_in c.args.words.now) c.in-Some.last last in
    let done : c.count.result - 1 + 1 ≡ length (taps_in c.args.words.now) = omega (arith, c.count.ensures, some) in
    gap_fits (book_of c.args.book.now) _ (taps_in c.args.words.now) c.args.time c.args.kept.now taken large _ _ done c.keep_gap.ensures.value

pub returns-clause-after : goal.returns-clause-after
returns-clause-after c =
    λ held taken large.
    let ts = taps_in c.args.words.now in
    let last : last_in ts ≡ Some c.in-Some.last = search rules in
    let some = some_taps ts c.in-Some.last last in
    let kept =
    (told_then _ _ _ (returns-clause-value c taken large) c.keep_gap.ensures.after).1 (gaps ts) (omega (arith, length_gaps ts, c.count.ensures)) (small_short (gaps ts) (gaps_small ts held.sound.timely))
    (subst (λ xs. StartsWith xs c.args.kept.now) (kept_some (book_of c.args.book.now) ts some) held.starts) in
    gap_kept (book_of c.args.book.now) ts c.args.time c.args.kept.now _ _ _ last (search rules) kept
