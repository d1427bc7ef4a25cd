-- What a decoder found, by the definitions of the formats.
use Rattle.std.proofs.Common.{◌≡◌, ℕ, ◌+◌, ◌*◌, ◌/◌, ◌≤◌, Bool, true, ◌&&◌, eqb, leb, List, [], ◌∷◌, map, length, take, drop, IfErr, Some, None, Option, Result, sym, refl, ap, ◌∙◌, arith}
use Rattle.std.specs.Option.{option_map}
use Rattle.std.specs.List.{list_all}
use Rattle.std.specs.Simd.{first_chunks}
use Rattle.std.proofs.lemmas.Bool.{eq-eqb}
use Rattle.taps.specs.Readings as readings
use Rattle.taps.specs.Readings.{pick}
use Rattle.taps.specs.Calls.{reads}
use Rattle.taps.specs.Values.{number_of, place_of}
use Rattle.taps.specs.declared.call.Call.{Call}
use Rattle.taps.specs.declared.refusal.Refusal.{Refusal}
use Rattle.taps.proofs.Picks.{pick_both}
use Rattle.octets.specs.Bytes.{number, chunks}
use Rattle.octets.proofs.Found.{mapped_found}
use Rattle.octets.proofs.Cut.{pieces_found}
use Rattle.wire.specs.Wire.{alone, call_in, in_place, all_in_place, read_in, reads_in}

-- the pairs behind the number of gaps, read one by one
pub reads_is : (cs rest : List ℕ) (pairs : List (List ℕ)) (n : ℕ) (r : Option (List readings.Read)) → rest ≡ drop 2 cs → n ≡ number (take 2 cs) → length cs ≡ 2 + 2 * n →
    pairs ≡ first_chunks 2 (length rest / 2) rest → length rest / 2 ≡ n → r ≡ pick (leb (length pairs) 255 && list_all in_place (map read_in pairs)) (Some (map read_in pairs)) None → option_map reads r ≡ reads_in cs
reads_is cs rest pairs n r tail is size cut half found =
    let whole : true ≡ eqb (length cs) (2 + 2 * n) = sym (eq-eqb _ _ size) in
    ap (option_map reads) (pieces_found read_in in_place all_in_place refl (λ _ _. refl) 2 n 255 rest pairs r (cut ∙ ap (λ m. first_chunks 2 m rest) half) found)
    ∙ mapped_found reads _ _
    ∙ (λ k. pick ((whole k && leb n 255) && all_in_place (chunks read_in 2 n (tail k))) (Some (reads (chunks read_in 2 n (tail k)))) None)
    ∙ ap (λ m. pick ((eqb (length cs) (2 + 2 * m) && leb m 255) && all_in_place (chunks read_in 2 m (drop 2 cs))) (Some (reads (chunks read_in 2 m (drop 2 cs)))) None) is

-- a call that can't be read is refused by 1, at one of the first places
abbrev pub ByOne : Result Call Refusal → Type 0
ByOne r = IfErr r (λ e. (number_of e ≡ 1) × (place_of e ≤ 5))

pub refused_by_one : (bs : List ℕ) → ByOne (call_in bs)
refused_by_one [] = (refl, omega arith)
refused_by_one (first ∷ rest) =
    let either : (t : Bool) (x y : _) → ByOne x → ByOne y → ByOne (pick t x y) = λ t x y p q. pick_both ByOne t x y (λ _. p) (λ _. q) in
    let lone : (c : Call) → ByOne (alone c rest) = λ c. either (eqb (length rest) 0) _ _ tt (refl, omega arith) in
    either (eqb first 0) _ _ (either (eqb (length rest) 4) _ _ tt (refl, omega arith))
    (either (eqb first 1) _ _ (lone _) (either (eqb first 2) _ _ (lone _) (either (eqb first 3) _ _ (lone _) (refl, omega arith))))
