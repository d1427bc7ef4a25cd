-- What is read of the kinds and the tempi, in the words of `book_in`.
use Rattle.std.proofs.Common.{◌≡◌, ℕ, ◌+◌, ◌*◌, ◌/◌, ◌<◌, ◌≤◌, true, List, map, length, take, drop, refl, ap, ◌∙◌, arith}
use native.Mathlib.Nat.{mul-div_cancel_left}
use Rattle.std.specs.List.{between, list_all}
use Rattle.std.specs.Simd.{first_chunks}
use Rattle.std.proofs.lemmas.List.{length-take-le, length-drop}
use Rattle.taps.specs.Readings.{Kind}
use Rattle.taps.specs.Promise.{good_kind, good_kinds}
use Rattle.octets.specs.Bytes.{chunks}
use Rattle.octets.proofs.Cut.{list_all_is, map_pieces, chunks_front}

-- what is asked of each kind is what `good_kinds` asks of them all; of a tempo by itself nothing is asked
pub each_kind : (ks : List Kind) → list_all good_kind ks ≡ good_kinds ks
unfolding good_kinds
each_kind ks = list_all_is good_kind good_kinds refl (λ _ _. refl) ks

pub each_tempo : (ts : List ℕ) → list_all (λ _. true) ts ≡ true
each_tempo ts = list_all_is (λ _. true) (λ _. true) refl (λ _ _. refl) ts

-- the part of the bytes that n pieces of w bytes take has so many, and they are those that `chunks` cuts
pub part_pieces : {X : Type 0} (f : List ℕ → X) (w n at : ℕ) (bs : List ℕ) → 0 < w → at + w * n ≤ length bs →
    (length (between at (at + w * n) bs) / w ≡ n)
    × (map f (first_chunks w (length (between at (at + w * n) bs) / w) (between at (at + w * n) bs)) ≡ chunks f w n (drop at bs))
part_pieces f w n at bs some within =
    let part : between at (at + w * n) bs ≡ take (w * n) (drop at bs) = ap (λ k. take k (drop at bs)) (omega arith) in
    let size : length (between at (at + w * n) bs) ≡ w * n = ap length part ∙ length-take-le (w * n) (drop at bs) (omega (arith, length-drop at bs)) in
    let count : length (between at (at + w * n) bs) / w ≡ n = ap (λ k. k / w) size ∙ mul-div_cancel_left n some in
    (count, map_pieces f w _ (between at (at + w * n) bs) ∙ (λ k. chunks f w (count k) (part k)) ∙ chunks_front f w n (drop at bs))
