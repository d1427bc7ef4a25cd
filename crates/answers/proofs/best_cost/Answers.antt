use Rattle.std.proofs.Common.{◌≡◌, ◌<◌, [], Some, length, sym, ap, subst, arith}
use Rattle.std.proofs.lemmas.List.{nil_from_length}
use Rattle.octets.specs.Bytes.{StartsWith}
use Rattle.taps.specs.Calls.{gaps}
use Rattle.taps.specs.Readings.{least}
use Rattle.taps.specs.Values.{book_of}
use Rattle.taps.proofs.Between.{length_gaps}
use Rattle.onsets.specs.Onsets.{taps_in}
use Rattle.onsets.proofs.Sound.{gaps_small}
use Rattle.answers.proofs.Kept.{kept_some, small_short}
use Rattle.answers.proofs.best_cost.Goals as goal

pub returns-in_default : goal.returns-in_default
unfolding gaps least
returns-in_default c =
    λ held.
    let none : taps_in c.args.words.now ≡ [] = nil_from_length _ (omega (arith, c.count.ensures, c.in_default.ensures)) in
    ap Some (sym (ap (λ ts. least (book_of c.args.book.now) 0 (gaps ts)) none))

pub returns : goal.returns
returns c =
    λ held.
    let ts = taps_in c.args.words.now in
    let some : 0 < length ts = omega (arith, c.count.ensures, c.in-Some.ensures) in
    c.kept_cost.ensures.value (gaps ts) (omega (arith, length_gaps ts, c.count.ensures, c.in-Some.ensures)) (small_short (gaps ts) (gaps_small ts held.sound.timely))
    (subst (λ xs. StartsWith xs c.args.kept.now) (kept_some (book_of c.args.book.now) ts some) held.starts)
