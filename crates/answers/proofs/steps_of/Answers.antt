use Rattle.std.proofs.Common.{◌≡◌, ℕ, ◌<◌, true, length, sym, refl, ◌∙◌, arith}
use Rattle.std.proofs.lemmas.List.Elements.{All-replicate}
use Rattle.std.proofs.lemmas.Option.{none-some, slice_get-get_or}
use Rattle.bitset.specs.Members.{member}
use Rattle.taps.specs.Calls.{gaps}
use Rattle.taps.specs.Promise.{small}
use Rattle.taps.proofs.Between.{length_gaps}
use Rattle.onsets.specs.Onsets.{taps_in}
use Rattle.onsets.proofs.Words.{few_gaps}
use Rattle.answers.proofs.Steps.{not_small, made_more}
use Rattle.answers.proofs.steps_of.Goals as goal

pub loop-i-init : goal.loop-i-init
unfolding small
loop-i-init c =
    let size : c.saturating_sub-count.result ≡ length (gaps (taps_in c.args.words.now)) = omega (arith, c.count.ensures, c.saturating_sub-count.ensures, length_gaps (taps_in c.args.words.now)) in
    ((refl, refl, All-replicate (λ s. (k : ℕ) → k < 32 → member s.kinds.bits k ≡ true) 255 _ c.full-kinds.ensures, refl), size, omega (arith, size, few_gaps c.args.words.now))

pub returns-in_err-gap : goal.returns-in_err-gap
returns-in_err-gap c =
    let inside : c.loop-i.i < length (gaps (taps_in c.args.words.now)) = omega (arith, c.loop-i-test.true, c.loop-i.invariant) in
    let there = slice_get-get_or (gaps (taps_in c.args.words.now)) c.loop-i.i 0 inside in
    absurd (none-some _ (sym c.in_err-gap.was ∙ c.gap.ensures ∙ there))

pub returns-then-gap-from : goal.returns-then-gap-from
returns-then-gap-from c =
    let inside : c.loop-i.i < length (gaps (taps_in c.args.words.now)) = omega (arith, c.loop-i-test.true, c.loop-i.invariant) in
    not_small (gaps (taps_in c.args.words.now)) c.loop-i.i inside (grind (arith, slice_get-get_or (gaps (taps_in c.args.words.now)) c.loop-i.i 0 inside))

pub loop-i-preserved : goal.loop-i-preserved
loop-i-preserved c =
    let inside : c.loop-i.i < length (gaps (taps_in c.args.words.now)) = omega (arith, c.loop-i-test.true, c.loop-i.invariant.1) in (
      made_more (gaps (taps_in c.args.words.now)) c.loop-i.all c.loop-i.i _ c.loop-i.invariant.0 inside (omega (arith, inside, c.loop-i.invariant)) (grind (arith, slice_get-get_or (gaps (taps_in c.args.words.now)) c.loop-i.i 0 inside)) c.full-kinds.ensures,
      c.loop-i.invariant.1,
      c.loop-i.invariant.2,
    )

pub invariant_of-result : goal.invariant_of-result
invariant_of-result c = record { whole = c.loop-i.invariant.0.3; few = c.loop-i.invariant.2 }
