use Rattle.std.proofs.Common.{◌≡◌, drop}
use Rattle.tokens.specs.Tokens.{digits_in}
use Rattle.tokens.proofs.parse_number.Given as goal

abbrev pub invariant-loop-digit : goal.invariant-loop-digit
invariant-loop-digit l = digits_in l.number (drop l.digit-index l.digits) ≡ digits_in 0 l.digits
