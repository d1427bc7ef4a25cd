use Rattle.std.proofs.Common.{rules, ◌≡◌, length, sym, ◌∙◌, ap, min, get_or, arith}
use Rattle.taps.specs.Values.{book_of}
use Rattle.taps.proofs.Good.{book_is_good}
use Rattle.fit.proofs.Priced.{fit_is, kinds_size}
use Rattle.fit.proofs.Row.{filled_none, filled_past, filled_lower, filled_wide}
use Rattle.fit.proofs.fill.Goals as goal
use Rattle.fit.proofs.fill.Goals.{then-has, else-has}

pub loop-k-init : goal.loop-k-init
loop-k-init c =
    let size : length c.fill.new.self ≡ length (book_of c.args.book.now).tempi = search rules in
    (filled_none (book_of c.args.book.now) c.args.set.bits c.args.gap 4294967295 c.fill.new.self (λ t i. search (rules, size)), size)

pub loop-k-preserved : goal.loop-k-preserved
loop-k-preserved c =
    let b = c.args.book.now in
    let size = kinds_size b c.as_slice-kinds.result.now c.as_slice-tempi.result.now c.as_slice-kinds.ensures c.as_slice-tempi.ensures in
    elim c.if-has.branch [
      | then-has w ↦ (
        filled_lower (book_of b) c.args.set.bits c.args.gap 4294967295 c.loop-k.least c.if-has.least c.loop-k.k (omega arith) (sym w.if-has.ensures)
            (λ t i.
            ap (λ row. get_or row t 0) w.least-is
            ∙ w.lower.ensures t (omega (arith, c.loop-k.invariant.1))
            ∙ ap (min (get_or c.loop-k.least t 0))
            (fit_is b c.as_slice-kinds.result.now c.as_slice-tempi.result.now c.as_slice-kinds.ensures c.as_slice-tempi.ensures c.args.gap c.loop-k.k t w.index-kinds-k.result (omega arith) w.index-kinds-k.is))
            c.loop-k.invariant.0,
        ap length w.least-is ∙ omega (arith, c.loop-k.invariant.1),
      )
      | else-has w ↦ (
        filled_past (book_of b) c.args.set.bits c.args.gap 4294967295 c.if-has.least c.loop-k.k (omega arith) (sym w.if-has.ensures) (rw w.least-is c.loop-k.invariant.0),
        ap length w.least-is ∙ c.loop-k.invariant.1,
      )
    ]

pub returns : goal.returns
returns c =
    let size = kinds_size c.args.book.now c.as_slice-kinds.result.now c.as_slice-tempi.result.now c.as_slice-kinds.ensures c.as_slice-tempi.ensures in
    filled_wide (book_of c.args.book.now) c.args.set.bits c.args.gap 4294967295 (book_is_good c.args.book.now) (omega arith) (omega arith) c.loop-k.least _ c.loop-k.k (omega arith) c.loop-k.invariant.0 (omega arith)
    (λ t i. c.widen.ensures t (omega arith))
