use Rattle.std.proofs.Common.{arith}
use Rattle.std.proofs.lemmas.Bool.Decides.{nat_tests}
use Rattle.taps.specs.Calls.{turned, place}
use Rattle.taps.specs.Values.{book_of}
use Rattle.taps.proofs.Good.{book_is_good}
use Rattle.wire.proofs.Told.{refused_by_one}
use Rattle.onsets.specs.Onsets.{limit_of, taps_in}
use Rattle.answers.specs.Answered.{told_of, left_of}
use Rattle.answers.proofs.Kept.{kept_garbled}
use Rattle.answers.proofs.Returned.{heard_placed, bytes_best_where_told}
use Rattle.answers.proofs.answer_bytes.Goals as goal

pub returns-clause-taps : goal.returns-clause-taps
unfolding turned
returns-clause-taps c = grind (arith, nat_tests)

pub returns-clause-kept : goal.returns-clause-kept
returns-clause-kept c =
    λ held. grind (arith, nat_tests, kept_garbled (book_of c.args.book.now) (limit_of c.args.words.now) (taps_in c.args.words.now) c.args.kept.now held.starts)

pub returns-clause-value : goal.returns-clause-value
unfolding turned place told_of
returns-clause-value c = λ sure. grind (arith, nat_tests, refused_by_one c.args.request.now)

pub returns-clause-left : goal.returns-clause-left
unfolding turned place left_of
returns-clause-left c = λ sure. grind (arith, nat_tests, refused_by_one c.args.request.now)

pub returns-clause-best : goal.returns-clause-best
returns-clause-best c =
    bytes_best_where_told _ _ _ _ _ c.args.out.now _ _ (book_is_good c.args.book.now) (omega arith) (heard_placed c.args.request.now) (returns-clause-value c) (returns-clause-left c)
