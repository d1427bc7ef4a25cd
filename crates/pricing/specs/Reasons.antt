-- Why lines have no price, as values of the code and as text. Assumes nothing: these are definitions.
use Rattle.std.specs.Prelude.{ℕ, List, codes}
use Rattle.text.specs.Notes.{unread_text}
use Rattle.pricing.specs.Priced as priced
use Rattle.pricing.specs.Pricing.{wrong_text}
use Rattle.pricing.specs.Values.{untaken_of, untaken_text}
use Rattle.pricing.specs.declared.price.Unpriced.{Unpriced}
use Rattle.pricing.specs.declared.price.Unpriced.TheVariants.{NoTaps, NoReading, More, Taps, Reading, Count}

abbrev pub unpriced_of : Unpriced → priced.Unpriced
unpriced_of NoTaps = priced.no_taps
unpriced_of NoReading = priced.no_reading
unpriced_of More = priced.more
unpriced_of (Taps u) = priced.taps (untaken_of u)
unpriced_of (Reading u) = priced.reading u
unpriced_of (Count w) = priced.count w.notes w.gaps

abbrev pub unpriced_text : Unpriced → List ℕ
unpriced_text NoTaps = codes "a line of tap times is wanted, and a line with a reading"
unpriced_text NoReading = codes "a line with a reading is wanted behind that of the taps"
unpriced_text More = codes "nothing may stand behind the line with the reading"
unpriced_text (Taps u) = untaken_text u
unpriced_text (Reading u) = unread_text u
unpriced_text (Count w) = wrong_text w.notes w.gaps
