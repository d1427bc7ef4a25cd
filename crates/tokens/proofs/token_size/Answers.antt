use Rattle.std.proofs.Common.{rules, tests, ◌∙◌, ap, length}
use Rattle.std.specs.Option.{unwrap_or}
use Rattle.std.proofs.lemmas.Iterator.{YieldsList-from_slice}
use Rattle.std.proofs.lemmas.Iterator.Search.{position_from_yields_List}
use Rattle.std.specs.Char.{is_ascii_whitespace}
use Rattle.tokens.proofs.Firsts.{found_place}
use Rattle.tokens.proofs.token_size.Goals as goal

pub returns : goal.returns
returns c = c.unwrap_or.ensures ∙ ap (λ r. unwrap_or r (length c.args.text.now)) (position_from_yields_List is_ascii_whitespace _ _ _ c.position-place.ensures.ran (YieldsList-from_slice c.args.text.now cc) (λ x b q k. search (rules, tests))) ∙ found_place is_ascii_whitespace c.args.text.now
