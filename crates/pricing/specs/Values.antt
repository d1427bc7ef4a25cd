-- What the values of the code stand for, and what errors are printed as. Assumes nothing: these are definitions.
--
-- times_of: the times of taps, in ms. why_of, untaken_of: why a tap is not taken. untaken_text: what that is printed as.
use Rattle.std.specs.Prelude.{ℕ, List, ◌++◌, codes, decimal}
use Rattle.taps.specs.Values.{number_of, refusal_text}
use Rattle.onsets.specs.Onsets.{taps_in}
use Rattle.pricing.specs.TapLine as line
use Rattle.pricing.specs.declared.tap_list.Taps.{Taps}
use Rattle.pricing.specs.declared.tap_line.Untaken.{Untaken}
use Rattle.pricing.specs.declared.tap_line.Why.{Why}
use Rattle.pricing.specs.declared.tap_line.Why.TheVariants.{NoNumber, Refused}

abbrev pub times_of : Taps → List ℕ
times_of t = taps_in t.words

abbrev pub why_of : Why → line.Why
why_of NoNumber = line.no_number
why_of (Refused r) = line.refused (number_of r)

abbrev pub untaken_of : Untaken → line.Untaken
untaken_of u = record { tap = u.tap; why = why_of u.why }

abbrev pub why_text : Why → List ℕ
why_text NoNumber = codes ", counted from 0, is no number"
why_text (Refused r) = codes ", counted from 0: " ++ refusal_text r

abbrev pub untaken_text : Untaken → List ℕ
untaken_text u = codes "tap " ++ (decimal u.tap ++ why_text u.why)
