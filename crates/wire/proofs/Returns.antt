-- What was written reads back as the same, and so no two that differ are written alike.
use Rattle.std.proofs.Common.{◌≡◌, ℕ, ◌+◌, ◌*◌, ◌^◌, ◌<◌, true, ◌&&◌, eqb, leb, List, [], ◌++◌, length, Some, None, Ok, sym, refl, ap, ◌∙◌, arith}
use Rattle.std.specs.List.{flat_map}
use Rattle.std.proofs.lemmas.List.{append-nil, map-id}
use Rattle.std.proofs.lemmas.Bool.{eq-eqb, le-leb}
use Rattle.std.proofs.lemmas.Bool.Decides.{nat_tests}
use Rattle.taps.specs.Readings.{pick}
use Rattle.taps.specs.Calls.{refused, number, reads}
use Rattle.taps.specs.Values.{listed}
use Rattle.taps.specs.declared.call.Call.TheVariants as call
use Rattle.octets.specs.Bytes as bytes
use Rattle.octets.specs.Bytes.{two, chunks}
use Rattle.octets.proofs.Chunks.{chunks_joined, length_joined}
use Rattle.octets.proofs.Numbers.{two_back, four_back, eight_back}
use Rattle.octets.proofs.Found.{same_from_bytes}
use Rattle.wire.specs.Wire.{call_in, answer_bytes, answer_in, all_in_place, read_bytes, read_in}
use Rattle.wire.specs.Laws.{CallsReturn, AnswersReturn, CallsApart, AnswersApart}

-- a refusal of the list has a small number
listed_small : (n p : ℕ) → listed n p ≡ true → n < 2 ^ 32
listed_small n p h = grind (arith, nat_tests)

pub calls_return : CallsReturn
calls_return (call.Tap t) h = ap (λ n. Ok (call.Tap n)) (four_back t h)
calls_return call.Back h = refl
calls_return call.Cost h = refl
calls_return call.Read h = refl

pub answers_return : AnswersReturn
answers_return (refused n p) h =
    let first = four_back n (listed_small n p h.0) in
    let second = four_back p h.1 in
    (λ k. pick (listed (first k) (second k)) (Some (refused (first k) (second k))) None) ∙ ap (λ t. pick t (Some (refused n p)) None) h.0
answers_return (number n) h = ap (λ k. Some (number k)) (eight_back n h)
answers_return (reads rs) h =
    let pairs : List ℕ = flat_map read_bytes rs in
    let count : bytes.number (two (length rs)) ≡ length rs = two_back (length rs) (omega (arith, h.0)) in
    let same : chunks read_in 2 (length rs) pairs ≡ rs =
    ap (chunks read_in 2 (length rs)) (sym (append-nil pairs)) ∙ chunks_joined read_in read_bytes 2 (λ _. refl) rs [] ∙ map-id rs in
    let whole : eqb (length (two (length rs) ++ pairs)) (2 + 2 * length rs) ≡ true = eq-eqb _ _ (omega (arith, length_joined read_bytes 2 (λ _. refl) rs)) in
    let few : leb (length rs) 255 ≡ true = le-leb _ _ h.0 in
    (λ k. pick ((eqb (length (two (length rs) ++ pairs)) (2 + 2 * count k) && leb (count k) 255) && all_in_place (chunks read_in 2 (count k) pairs)) (Some (reads (chunks read_in 2 (count k) pairs))) None)
    ∙ (λ k. pick ((whole k && few k) && all_in_place (same k)) (Some (reads (same k))) None) ∙ ap (λ t. pick t (Some (reads rs)) None) h.1

pub calls_apart : CallsApart
calls_apart c d h k e = let s : Ok c ≡ Ok d = sym (calls_return c h) ∙ ap call_in e ∙ calls_return d k in cc

pub answers_apart : AnswersApart
answers_apart a b h k = same_from_bytes answer_in answer_bytes a b (answers_return a h) (answers_return b k)
