use Rattle.std.proofs.Common.{◌≡◌, Some, ap, arith}
use Rattle.std.proofs.lemmas.Bool.Decides.{nat_tests}
use Rattle.taps.specs.Calls.{taps, turned, told, place}
use Rattle.taps.specs.Values.{book_of}
use Rattle.onsets.specs.Onsets.{limit_of, taps_in}
use Rattle.answers.proofs.Kept.{kept_tap}
use Rattle.answers.proofs.tap.Goals as goal

pub keep-requires : goal.keep-requires
unfolding turned
keep-requires c =
    let taken : turned (limit_of c.args.words.now) (taps_in c.args.words.now) (taps c.args.time) ≡ 0 = grind arith in
    grind (arith, nat_tests)

pub returns-in-Err-clause-value : goal.returns-in-Err-clause-value
unfolding told place
returns-in-Err-clause-value c = λ large. ap Some (grind (arith, nat_tests))

pub returns-clause-kept : goal.returns-clause-kept
returns-clause-kept c =
    λ held large.
    let taken : turned (limit_of c.args.words.now) (taps_in c.args.words.now) (taps c.args.time) ≡ 0 = grind arith in
    kept_tap (book_of c.args.book.now) _ _ _ held.starts c.args.time c.keep.new.kept taken (c.keep.ensures.after held taken large)

pub returns-clause-value : goal.returns-clause-value
unfolding told place
returns-clause-value c = λ large. ap Some (grind (arith, nat_tests))
