use Rattle.std.proofs.Common.{rules, tests, not, ◌==◌, ◌||◌, ◌∙◌, ap, sym}
use Rattle.std.specs.Char.{is_ascii_alphabetic}
use Rattle.std.specs.Str.{bytes_eq}
use Rattle.std.proofs.lemmas.Iterator.{YieldsList-from_slice}
use Rattle.std.proofs.lemmas.Iterator.Search.{all_from_yields_List}
use Rattle.bookfile.proofs.line.is_name.Goals as goal

pub returns-then-all : goal.returns-then-all
returns-then-all c =
    let word = c.args.word.now in
    let all = all_from_yields_List (λ b. is_ascii_alphabetic b || b == 45) _ _ c.all.result c.all.ensures.ran (YieldsList-from_slice word cc) (λ x b q k. search (rules, tests)) in
    rw (sym all ∙ c.if-all.true) (c.ne.ensures ∙ ap (λ w. not (bytes_eq word w)) c.as_slice.ensures)
