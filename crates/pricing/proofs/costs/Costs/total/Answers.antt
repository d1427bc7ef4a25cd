use Rattle.std.proofs.Common.{sym, ◌∙◌, arith}
use Rattle.taps.specs.Calls.{gaps}
use Rattle.taps.specs.Readings.{before_of}
use Rattle.taps.specs.Values.{book_of}
use Rattle.pricing.specs.Values.{times_of}
use Rattle.pricing.proofs.Prices.{total_more, total_whole}
use Rattle.pricing.proofs.costs.Costs.total.Goals as goal

pub loop-i-preserved : goal.loop-i-preserved
loop-i-preserved c = record {
  whole = total_more (book_of c.args.self.now.book.now) (before_of c.loop-i.before) c.unwrap-gap.result c.loop-i.i c.loop-i.total c.gap_cost-total.result _ (gaps (times_of c.args.self.now.taps)) c.as_slice-reads.result.now c.index-reads-i.result (sym c.gap.ensures ∙ c.unwrap-gap.ensures) c.loop-i-test.true c.index-reads-i.is c.gap_cost-total.ensures.value c.loop-i.invariant.whole;
  small = omega (arith, c.gap_cost-total.ensures.small);
}

pub returns : goal.returns
returns c =
    total_whole (book_of c.args.self.now.book.now) (before_of c.loop-i.before) c.loop-i.i c.loop-i.total _ (gaps (times_of c.args.self.now.taps)) c.as_slice-reads.result.now (omega arith) c.loop-i.invariant.whole
