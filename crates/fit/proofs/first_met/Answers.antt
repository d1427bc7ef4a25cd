use Rattle.std.proofs.Common.{rules, ◌≡◌, true, false, sym, refl, ◌∙◌, ap, length, get_or, eqb, arith}
use Rattle.std.proofs.lemmas.Bool.Decides.{nat_tests}
use Rattle.std.specs.Option.{option_map}
use Rattle.bitset.specs.Members.{member}
use Rattle.taps.specs.Values.{book_of, read_of}
use Rattle.fit.proofs.Priced.{fit_is, kinds_size}
use Rattle.fit.proofs.Smallest.{fewer}
use Rattle.fit.proofs.Meeting.{meeting_none, meeting_has, others_left, here_none, here_met, here_past, tested}
use Rattle.fit.proofs.first_met.Goals as goal

pub kinds-init : goal.kinds-init
kinds-init c = (refl, refl)

pub loop-t-init : goal.loop-t-init
loop-t-init c =
    let size = kinds_size c.args.book.now c.as_slice-kinds.result.now c.as_slice-tempi.result.now c.as_slice-kinds.ensures c.as_slice-tempi.ensures in
    let first = c.in-Some.ensures in
    (c.kinds.invariant.0, sym (meeting_has _ _ _ _ _ _ c.in-Some.k (omega (arith, size)) first.1 first.2) ∙ c.kinds.invariant.1)

pub loop-t-preserved : goal.loop-t-preserved
loop-t-preserved c =
    let size : length c.want.new.wanted ≡ length c.args.rest.now = search rules in
    let kinds = kinds_size c.args.book.now c.as_slice-kinds.result.now c.as_slice-tempi.result.now c.as_slice-kinds.ensures c.as_slice-tempi.ensures in
    let costs =
    c.fit.ensures.value
    ∙ fit_is c.args.book.now c.as_slice-kinds.result.now c.as_slice-tempi.result.now c.as_slice-kinds.ensures c.as_slice-tempi.ensures c.args.gap c.in-Some.k c.loop-t.t c.index-kinds-k.result (omega (arith, kinds)) c.index-kinds-k.is in
    let test = tested _ _ _ _ _ c.in-Some.k c.loop-t.t _ _ costs c.fit.ensures.small (c.want.ensures c.loop-t.t c.loop-t-test.true) in
    let no : eqb c.fit.result (get_or c.want.new.wanted c.loop-t.t 0) ≡ false = grind (arith, nat_tests) in
    (c.loop-t.invariant.0, sym (here_past _ _ _ _ _ _ c.in-Some.k c.loop-t.t (omega (arith, size)) (sym test ∙ no)) ∙ c.loop-t.invariant.1)

pub kinds-smaller : goal.kinds-smaller
kinds-smaller c =
    let size = kinds_size c.args.book.now c.as_slice-kinds.result.now c.as_slice-tempi.result.now c.as_slice-kinds.ensures c.as_slice-tempi.ensures in
    let first = c.in-Some.ensures in
    fewer (member c.kinds.open.bits) (member c.without-open.result.bits) c.in-Some.k first.2 first.1 c.without-open.ensures 0 (length (book_of c.args.book.now).kinds) (omega arith) (omega (arith, size))

pub kinds-preserved : goal.kinds-preserved
kinds-preserved c =
    let size : length c.want.new.wanted ≡ length c.args.rest.now = search rules in
    (c.loop-t.invariant.0, sym (others_left _ _ _ _ _ c.kinds.open.bits c.in-Some.k c.without-open.result.bits c.without-open.ensures) ∙ sym (here_none _ _ _ _ _ _ c.in-Some.k c.loop-t.t (omega (arith, size))) ∙ c.loop-t.invariant.1)

pub returns-then-k-kinds : goal.returns-then-k-kinds
returns-then-k-kinds c =
    let size = kinds_size c.args.book.now c.as_slice-kinds.result.now c.as_slice-tempi.result.now c.as_slice-kinds.ensures c.as_slice-tempi.ensures in
    let first = c.in-Some.ensures in
    ap (option_map read_of) c.kinds.invariant.0 ∙ sym (meeting_none _ _ _ _ _ c.kinds.open.bits (λ i h. first.2 i (omega (arith, size, h)))) ∙ c.kinds.invariant.1

pub returns-then-fit-wanted : goal.returns-then-fit-wanted
returns-then-fit-wanted c =
    let size : length c.want.new.wanted ≡ length c.args.rest.now = search rules in
    let kinds = kinds_size c.args.book.now c.as_slice-kinds.result.now c.as_slice-tempi.result.now c.as_slice-kinds.ensures c.as_slice-tempi.ensures in
    let costs =
    c.fit.ensures.value
    ∙ fit_is c.args.book.now c.as_slice-kinds.result.now c.as_slice-tempi.result.now c.as_slice-kinds.ensures c.as_slice-tempi.ensures c.args.gap c.in-Some.k c.loop-t.t c.index-kinds-k.result (omega (arith, kinds)) c.index-kinds-k.is in
    let test = tested _ _ _ _ _ c.in-Some.k c.loop-t.t _ _ costs c.fit.ensures.small (c.want.ensures c.loop-t.t c.loop-t-test.true) in
    let yes : eqb c.fit.result (get_or c.want.new.wanted c.loop-t.t 0) ≡ true = grind (arith, nat_tests) in
    sym (here_met _ _ _ _ _ _ c.in-Some.k c.loop-t.t (omega (arith, size)) (sym test ∙ yes)) ∙ c.loop-t.invariant.1

pub returns-in_default : goal.returns-in_default
returns-in_default c =
    ap (option_map read_of) c.kinds.invariant.0 ∙ sym (meeting_none _ _ _ _ _ c.kinds.open.bits (λ i h. c.in_default.ensures i)) ∙ c.kinds.invariant.1
