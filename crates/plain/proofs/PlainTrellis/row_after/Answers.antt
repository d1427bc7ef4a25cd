use Rattle.std.proofs.Common.{rules, ◌≡◌, ℕ, suc, ◌+◌, ◌<◌, min, length, get_or, subst, arith}
use Rattle.std.proofs.lemmas.List.{get_or_default}
use Rattle.taps.specs.Readings.{too_much}
use Rattle.taps.specs.Values.{book_of}
use Rattle.taps.proofs.Good.{rising_tempi}
use Rattle.shift.specs.Shift.{Shifted}
use Rattle.plain.proofs.Alone.{alone, alone_at, behind_first}
use Rattle.plain.proofs.Forward.{after_whole}
use Rattle.plain.proofs.PlainTrellis.row_after.Goals as goal

pub shift-requires-clause-rising : goal.shift-requires-clause-rising
shift-requires-clause-rising c = rising_tempi c.args.self.now.book.tempi _ c.as_slice.ensures

pub shift-requires-clause-small : goal.shift-requires-clause-small
shift-requires-clause-small c = λ k d h. omega (arith, c.lower.ensures k h, get_or_default c.lower.new.row k d 0 h)

pub returns : goal.returns
returns c =
    λ alone_is.
    let b = book_of c.args.self.now.book in
    let before = c.args.before.now in
    let row = c.lower.new.row in
    let size : length row ≡ length b.tempi = search rules in
    let each : (s : ℕ) → s < length b.tempi → get_or row s 0 ≡ min (get_or before (suc s) 0) too_much =
    λ s h. omega (arith, c.lower.ensures s (omega (arith, size, h)), behind_first before _ c.copy_from_slice.ensures.after s) in
    let is : (t : ℕ) → t < length b.tempi → get_or c.add.new.row t 0 ≡ min (min (get_or c.shift.new.row t 0) (get_or before 0 0) + alone b c.args._step t) too_much =
    λ t h. omega (arith, c.add.ensures t (search (rules, size)), c.lower-2.ensures t (search (rules, size)), alone_at b c.args._step _ alone_is t h) in
    after_whole b c.args._step before row c.shift.new.row c.add.new.row size each
    (subst (λ ts. Shifted b.change ts row c.shift.new.row) c.as_slice.ensures c.shift.ensures.least) (search rules) is c.split_at_mut-start.result.0.now c.split_at_mut-start.ensures.front_len
    (search rules)
