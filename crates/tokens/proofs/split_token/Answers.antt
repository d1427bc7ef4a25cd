use Rattle.std.proofs.Common.{◌≡◌, ◌<◌, length, sym, ◌∙◌, subst, arith}
use Rattle.std.specs.Char.{is_ascii_whitespace}
use Rattle.std.proofs.lemmas.Bool.Decides.{nat_tests}
use Rattle.tokens.proofs.Firsts.{place_within, size_none, token_none, token_split, trimmed}
use Rattle.tokens.proofs.split_token.Goals as goal

pub returns-then-is_empty-clause-none : goal.returns-then-is_empty-clause-none
returns-then-is_empty-clause-none c =
    let left = c.trim_ascii_start-visible.result.now in
    let none : length left ≡ 0 = grind (arith, nat_tests) in
    token_none c.args.line.now (sym (trimmed c.args.line.now left c.trim_ascii_start-visible.ensures.value) ∙ size_none left none)

pub cut-requires : goal.cut-requires
cut-requires c = omega (arith, place_within is_ascii_whitespace c.trim_ascii_start-visible.result.now, c.token_size.ensures)

pub returns-clause-value : goal.returns-clause-value
returns-clause-value c =
    let same = trimmed c.args.line.now c.trim_ascii_start-visible.result.now c.trim_ascii_start-visible.ensures.value in
    (cc, cc)

pub returns-clause-tokens : goal.returns-clause-tokens
returns-clause-tokens c =
    let left = c.trim_ascii_start-visible.result.now in
    let same = trimmed c.args.line.now left c.trim_ascii_start-visible.ensures.value in
    let some : 0 < length left = grind (arith, nat_tests) in
    let split = token_split c.args.line.now (subst (λ ys. 0 < length ys) same some) in
    cc
