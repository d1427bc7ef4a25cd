-- What is read as something is just what that is written as.
use Rattle.std.proofs.Common.{◌≡◌, ℕ, zero, suc, ◌+◌, ◌*◌, ◌&&◌, eqb, leb, List, [], ◌∷◌, ◌++◌, length, take, drop, Some, Ok, sym, refl, ap, ◌∙◌, inl, inr, arith}
use Rattle.std.specs.List.{flat_map}
use Rattle.std.proofs.lemmas.List.{length-drop, length-take-le, take_all, take-append-drop}
use Rattle.std.proofs.lemmas.Bool.{and_parts, eqb-true}
use Rattle.std.proofs.lemmas.Bool.Decides.{nat_tests}
use Rattle.taps.specs.Readings.{Read}
use Rattle.taps.specs.Calls.{Answer, refused, number, reads}
use Rattle.taps.specs.Values.{listed}
use Rattle.taps.specs.declared.call.Call.{Call}
use Rattle.taps.specs.declared.call.Call.TheVariants as call
use Rattle.octets.specs.Bytes.{Bytes, two, four, chunks}
use Rattle.octets.specs.Bytes as bytes
use Rattle.octets.proofs.Chunks.{length_chunks, bytes_drop, bytes_take, joined_chunks}
use Rattle.octets.proofs.Found.{found_is, found_test, ways}
use Rattle.octets.proofs.Numbers.{list_spelled, two_whole, four_whole, eight_whole}
use Rattle.wire.specs.Wire.{alone, tap_in, call_bytes, read_in, read_bytes, all_in_place, refused_in, number_in, reads_in, answer_bytes}
use Rattle.wire.specs.Laws.{CallsOnly, AnswersOnly}

tap_only : (rest : List ℕ) (c : Call) → Bytes rest → tap_in rest ≡ Ok c → 0 ∷ rest ≡ call_bytes c
tap_only rest c all e =
    elim (ways (eqb (length rest) 4) _ _ _ e) [
      | inl w ↦
          let size : length rest ≡ 4 = eqb-true _ _ w.0 in
          let is : call.Tap (bytes.number rest) ≡ c = let ok = w.1 in cc in
          ap (λ l. 0 ∷ l) (sym (four_whole rest size all)) ∙ ap call_bytes is
      | inr w ↦ absurd (let ok = w.1 in let z : ◌≡◌ {A = ℕ} 0 1 = cc in omega arith)
    ]

alone_only : (n : ℕ) (k : Call) (rest : List ℕ) (c : Call) → call_bytes k ≡ n ∷ [] → alone k rest ≡ Ok c → n ∷ rest ≡ call_bytes c
alone_only n k [] c tag e = let is : k ≡ c = cc in sym tag ∙ ap call_bytes is
alone_only n k (b ∷ rest) c tag e = absurd (elim (ways (eqb (length (b ∷ rest)) 0) _ _ _ e) [ inl w ↦ omega (arith, eqb-true (length (b ∷ rest)) 0 w.0) | inr w ↦ (let ok = w.1 in let z : ◌≡◌ {A = ℕ} 0 1 = cc in omega arith) ])

pub calls_only : CallsOnly
calls_only [] c all e = absurd (let z : ◌≡◌ {A = ℕ} 0 1 = cc in omega arith)
calls_only (zero ∷ rest) c all e = tap_only rest c (λ i. all (suc i)) e
calls_only (suc zero ∷ rest) c all e = alone_only 1 call.Back rest c refl e
calls_only (suc (suc zero) ∷ rest) c all e = alone_only 2 call.Cost rest c refl e
calls_only (suc (suc (suc zero)) ∷ rest) c all e = alone_only 3 call.Read rest c refl e
calls_only (suc (suc (suc (suc n))) ∷ rest) c all e = absurd (grind (arith, nat_tests))

refused_only : (rest : List ℕ) (a : Answer) → Bytes rest → refused_in rest ≡ Some a → 0 ∷ rest ≡ answer_bytes a
refused_only rest a all e =
    let n : ℕ = bytes.number (take 4 rest) in
    let p : ℕ = bytes.number (drop 4 rest) in
    let size : length rest ≡ 8 = eqb-true (length rest) 8 (and_parts (eqb (length rest) 8) (listed n p) (found_test _ a (refused n p) (sym e))).0 in
    let first : four n ≡ take 4 rest = four_whole (take 4 rest) (length-take-le 4 rest (omega arith)) (bytes_take 4 rest all) in
    let second : four p ≡ drop 4 rest = four_whole (drop 4 rest) (omega (arith, length-drop 4 rest)) (bytes_drop 4 rest all) in
    sym (ap answer_bytes (found_is _ a (refused n p) (sym e)) ∙ (λ k. 0 ∷ (first k ++ second k)) ∙ ap (λ l. 0 ∷ l) (take-append-drop 4 rest))

number_only : (rest : List ℕ) (a : Answer) → Bytes rest → number_in rest ≡ Some a → 1 ∷ rest ≡ answer_bytes a
number_only rest a all e =
    let size : length rest ≡ 8 = eqb-true (length rest) 8 (found_test _ a (number (bytes.number rest)) (sym e)) in
    sym (ap answer_bytes (found_is _ a (number (bytes.number rest)) (sym e)) ∙ ap (λ l. 1 ∷ l) (eight_whole rest size all))

reads_only : (rest : List ℕ) (a : Answer) → Bytes rest → reads_in rest ≡ Some a → 2 ∷ rest ≡ answer_bytes a
reads_only rest a all e =
    let n : ℕ = bytes.number (take 2 rest) in
    let rs : List Read = chunks read_in 2 n (drop 2 rest) in
    let test = and_parts (eqb (length rest) (2 + 2 * n) && leb n 255) (all_in_place rs) (found_test _ a (reads rs) (sym e)) in
    let size : length rest ≡ 2 + 2 * n = eqb-true (length rest) (2 + 2 * n) (and_parts (eqb (length rest) (2 + 2 * n)) (leb n 255) test.0).0 in
    let count : two (length rs) ≡ take 2 rest =
    ap two (length_chunks read_in 2 n (drop 2 rest)) ∙ two_whole (take 2 rest) (length-take-le 2 rest (omega arith)) (bytes_take 2 rest all) in
    let pairs : flat_map read_bytes rs ≡ drop 2 rest =
    joined_chunks read_in read_bytes 2 (λ p two-long _. sym (list_spelled 2 p two-long)) n (drop 2 rest) (omega (arith, length-drop 2 rest)) (bytes_drop 2 rest all)
    ∙ take_all (2 * n) (drop 2 rest) (omega (arith, length-drop 2 rest)) in
    sym (ap answer_bytes (found_is _ a (reads rs) (sym e)) ∙ (λ k. 2 ∷ (count k ++ pairs k)) ∙ ap (λ l. 2 ∷ l) (take-append-drop 2 rest))

pub answers_only : AnswersOnly
answers_only [] a all e = absurd (let z : ◌≡◌ {A = ℕ} 0 1 = cc in omega arith)
answers_only (zero ∷ rest) a all e = refused_only rest a (λ i. all (suc i)) e
answers_only (suc zero ∷ rest) a all e = number_only rest a (λ i. all (suc i)) e
answers_only (suc (suc zero) ∷ rest) a all e = reads_only rest a (λ i. all (suc i)) e
answers_only (suc (suc (suc n)) ∷ rest) a all e = absurd (grind (arith, nat_tests))
