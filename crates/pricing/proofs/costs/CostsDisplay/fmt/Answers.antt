use Rattle.std.proofs.Common.{rules, ◌<◌, [], ◌∷◌, ◌++◌, map, length, sym, ap, ◌∙◌, subst, arith}
use Rattle.std.specs.Prelude.{codes, decimal}
use Rattle.std.specs.Option.{IsSome}
use Rattle.std.proofs.Output.{has_written_append, has_written_of_eq}
use Rattle.std.proofs.lemmas.List.{length-map}
use Rattle.taps.specs.Calls.{gaps}
use Rattle.taps.specs.Items.{items}
use Rattle.taps.specs.Readings.{before_of}
use Rattle.taps.specs.Values.{book_of, read_of, reading_of}
use Rattle.pricing.specs.Pricing.{costs_text, gap_text}
use Rattle.pricing.specs.Values.{times_of}
use Rattle.pricing.proofs.Prices.{gap_there, text_more, text_whole}
use Rattle.pricing.proofs.costs.CostsDisplay.fmt.Goals as goal

pub loop-i-init : goal.loop-i-init
loop-i-init g c = λ p. ([], search rules, ap (λ rs. costs_text (book_of c.args.self.now.book.now) 0 (gaps (times_of c.args.self.now.taps)) (map read_of rs)) c.as_slice-reads.ensures)

pub unwrap-gap-requires : goal.unwrap-gap-requires
unwrap-gap-requires g c =
    let inside : c.loop-i.i < length (gaps (times_of c.args.self.now.taps)) = omega (arith, c.args.self.now.each, length-map (items c.args.self.now.reading) read_of, ap length c.as_slice-reads.ensures, c.loop-i-test.true) in
    subst IsSome (sym c.gap.ensures) (gap_there (gaps (times_of c.args.self.now.taps)) c.loop-i.i inside)

pub loop-i-preserved : goal.loop-i-preserved
loop-i-preserved g c = λ p.
    let w = c.loop-i.invariant p in
    let line = gap_text (book_of c.args.self.now.book.now) (before_of c.loop-i.before) c.unwrap-gap.result (read_of c.index-reads-i.result) ++ 10 ∷ [] in (
      w.0 ++ line,
      has_written_append _ _ _ _ line _ w.1 (search rules),
      text_more (book_of c.args.self.now.book.now) (before_of c.loop-i.before) c.unwrap-gap.result c.loop-i.i w.0 _ (gaps (times_of c.args.self.now.taps)) c.as_slice-reads.result.now c.index-reads-i.result (sym c.gap.ensures ∙ c.unwrap-gap.ensures) c.loop-i-test.true c.index-reads-i.is w.2,
    )

pub returns-clause-writes : goal.returns-clause-writes
returns-clause-writes g c = λ p ok.
    let w = c.loop-i.invariant p in
    let all = costs_text (book_of c.args.self.now.book.now) 0 (gaps (times_of c.args.self.now.taps)) (reading_of c.args.self.now.reading) in
    let lines = text_whole (book_of c.args.self.now.book.now) (before_of c.loop-i.before) c.loop-i.i w.0 all (gaps (times_of c.args.self.now.taps)) c.as_slice-reads.result.now c.loop-i-test.false w.2 in
    has_written_of_eq _ _ _ _ _ (ap (λ t. t ++ (codes "all " ++ decimal c.total-total.result)) lines ∙ ap (λ n. all ++ (codes "all " ++ decimal n)) c.total-total.ensures)
    (has_written_append _ _ _ _ (codes "all " ++ decimal c.total-total.result) _ w.1 (search rules))
