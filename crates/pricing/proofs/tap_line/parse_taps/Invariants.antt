use Rattle.std.proofs.Common.{◌≡◌, length}
use Rattle.tokens.specs.Tokens.{tokens_in}
use Rattle.pricing.specs.TapLine.{taps_in_line, taps_then}
use Rattle.pricing.specs.Values.{times_of}
use Rattle.pricing.proofs.tap_line.parse_taps.Given as goal

-- what is left of the line makes of the taps so far what the line makes of none
abbrev pub invariant-loop-token : goal.invariant-loop-token
invariant-loop-token l = taps_then (times_of l.taps) (tokens_in l.rest) ≡ taps_in_line l.line

abbrev pub decreases-loop-token : goal.decreases-loop-token
decreases-loop-token l = length l.rest
