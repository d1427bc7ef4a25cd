-- The worked taps, by trying all readings. Assumes nothing.
use Rattle.std.proofs.Common.{◌≡◌, ℕ, ◌<◌, List, [], ◌∷◌, Some, refl, ap, ◌∙◌, arith}
use Rattle.least.specs.Minima.{capped, over, cheapest}
use Rattle.least.specs.Readers.{readings}
use Rattle.taps.specs.Readings.{Book, Read, all_cost, too_much, least, reading}
use Rattle.taps.specs.Calls.{gaps}
use Rattle.taps.specs.Worked.{worked}
use Rattle.statements.specs.Plain.{read, plain, Tried}
use Rattle.statements.specs.Worked.{notes, TwoTaps, OneTap}
use Rattle.statements.proofs.Plain.{tried_stands}

-- a number and a reading that trying all readings gives are the least and the reading told
by_trying : (b : Book) (gs : List ℕ) (m : ℕ) (rs : List Read) → m < too_much → capped too_much (over (λ ss. Some (all_cost b 0 gs ss)) (readings (plain b) 0 gs)) ≡ m →
    cheapest (λ ss. Some (all_cost b 0 gs ss)) (readings (plain b) 0 gs) ≡ Some rs → (least b 0 gs ≡ m) × (reading b 0 gs ≡ rs)
unfolding Tried
by_trying b gs m rs small e f =
    let t = tried_stands b gs in
    let is : least b 0 gs ≡ m = t.0 ∙ e in
    let same : Some (reading b 0 gs) ≡ Some rs = t.1 (omega arith) ∙ f in
    (is, cc)

pub two_taps_stands : TwoTaps
unfolding TwoTaps gaps readings all_cost
two_taps_stands = let h = by_trying worked (240 ∷ []) 720 (read 1 1 ∷ []) (omega arith) refl refl in (h.0, ap (notes worked) h.1)

pub one_tap_stands : OneTap
unfolding OneTap gaps readings all_cost
one_tap_stands = by_trying worked [] 0 [] (omega arith) refl refl
