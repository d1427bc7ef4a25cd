use Rattle.std.proofs.Common.{◌≡◌, [], Ok, Err, MatchResult, sym, ◌∙◌, subst, arith}
use Rattle.taps.specs.Values.{book_of, reading_of}
use Rattle.tokens.specs.Tokens.{tokens_in}
use Rattle.pricing.specs.Values.{times_of}
use Rattle.pricing.specs.Reasons.{unpriced_of}
use Rattle.pricing.proofs.Priced.{no_token, two_lines}
use Rattle.pricing.proofs.price.price.Goals as goal

pub returns-clause-value : goal.returns-clause-value
returns-clause-value c =
    let b = book_of c.args.book.now in
    let first = c.in-Some in
    let second = c.in-Some-split_line in
    let none : tokens_in second.rest.now ≡ [] = no_token second.rest.now c.split_token.result (sym c.is_some.ensures ∙ c.if-is_some.false) c.split_token.ensures.none in
    let lines = two_lines b c.args.input.now first.times.now first.rest.now second.notes.now second.rest.now (omega (arith, first.ensures.less)) first.ensures.value.0 first.ensures.value.1 (omega (arith, second.ensures.less)) second.ensures.value.0 second.ensures.value.1 none in
    subst (λ p. MatchResult c.price_lines.result (λ r. p ≡ Ok (times_of r.taps, reading_of r.reading)) (λ e. p ≡ Err (unpriced_of e))) (sym lines) c.price_lines.ensures.value
