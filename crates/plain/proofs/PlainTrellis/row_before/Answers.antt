use Rattle.std.proofs.Common.{rules, ◌≡◌, ℕ, ◌<◌, length, get_or, subst, ap, arith, refl}
use Rattle.std.proofs.lemmas.List.{get_or_default}
use Rattle.taps.specs.Values.{book_of}
use Rattle.taps.proofs.Good.{rising_tempi}
use Rattle.shift.specs.Shift.{Shifted}
use Rattle.plain.proofs.Alone.{alone_at, behind_first}
use Rattle.plain.proofs.Backward.{arrived, before_whole, before_small}
use Rattle.plain.proofs.PlainTrellis.row_before.Goals as goal

pub shift-requires-clause-rising : goal.shift-requires-clause-rising
shift-requires-clause-rising c = rising_tempi c.args.self.now.book.tempi _ c.as_slice.ensures

pub shift-requires-clause-small : goal.shift-requires-clause-small
shift-requires-clause-small c = λ k d h. omega (arith, c.add.ensures k h, get_or_default c.add.new.row k d 0 h)

pub returns-clause-row : goal.returns-clause-row
returns-clause-row c =
    λ alone_is.
    let b = book_of c.args.self.now.book in
    let size : length c.add.new.row ≡ length b.tempi = search rules in
    let each : (t : ℕ) → t < length b.tempi → get_or c.add.new.row t 0 ≡ arrived b c.args._step c.args.after.now t =
    λ t h. omega (arith, c.add.ensures t (omega (arith, size)), ap (λ xs. get_or xs t 0) c.copy_from_slice.ensures.after, alone_at b c.args._step _ alone_is t h, behind_first c.args.after.now _ refl t) in
    before_whole b c.args._step c.args.after.now c.add.new.row size each c.split_at_mut-start.result.0.now c.shift.new.row c.least_of.result c.unwrap_or.result
    c.split_at_mut-start.ensures.front_len c.least_of.ensures c.unwrap_or.ensures (subst (λ ts. Shifted b.change ts c.add.new.row c.shift.new.row) c.as_slice.ensures c.shift.ensures.least) (search rules) c.shift.ensures.kept

pub returns-clause-small : goal.returns-clause-small
returns-clause-small c =
    before_small c.split_at_mut-start.result.0.now c.add.new.row c.shift.new.row c.least_of.result c.unwrap_or.result c.split_at_mut-start.ensures.front_len c.least_of.ensures c.unwrap_or.ensures
    (λ k d h. omega (arith, c.add.ensures k h, get_or_default c.add.new.row k d 0 h)) (search rules) c.shift.ensures.kept
