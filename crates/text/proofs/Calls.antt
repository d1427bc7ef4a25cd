-- A call that was printed reads back. Assumes nothing.
use Rattle.std.proofs.Common.{◌≡◌, ℕ, ◌<◌, [], ◌∷◌, refl, ap, ◌∙◌, arith}
use Rattle.std.specs.Prelude.{codes, decimal}
use Rattle.std.specs.Option.{option_map}
use Rattle.tokens.specs.Tokens.{tokens_in}
use Rattle.tokens.proofs.Joined.{one_token, token_joined}
use Rattle.tokens.proofs.Printed.{number_some, number_whole}
use Rattle.tokens.proofs.Numbers.{number_reads}
use Rattle.taps.specs.Calls.{taps}
use Rattle.text.specs.Lines.{call_of_tokens, call_text}
use Rattle.text.specs.Laws.{CallsRead}

tap_tokens : (t : ℕ) → t < 4294967296 → tokens_in (call_text (taps t)) ≡ codes "tap" ∷ decimal t ∷ []
tap_tokens t h =
    token_joined (codes "tap") 32 (decimal t) (refl, (refl, (refl, tt))) (omega arith) refl
    ∙ ap (λ ts. codes "tap" ∷ ts) (one_token (decimal t) (number_whole t h) (number_some t h))

pub calls_read : CallsRead
calls_read = (λ t h. ap call_of_tokens (tap_tokens t h) ∙ ap (option_map taps) (number_reads t h), refl, refl, refl)
