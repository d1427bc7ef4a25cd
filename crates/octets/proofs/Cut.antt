-- Pieces as `as_chunks` gives them, for callers of `decode_all` whose formats are defined by `chunks` and by a test of their own.
use Rattle.std.proofs.Common.{◌≡◌, ℕ, zero, suc, ◌*◌, leb, Bool, true, ◌&&◌, List, [], ◌∷◌, map, length, take, drop, Some, None, Option, sym, refl, ap, arith}
use Rattle.std.proofs.lemmas.Grind.{common_steps}
use Rattle.std.specs.List.{list_all}
use Rattle.std.proofs.lemmas.List.{drop-take, take-take}
use Rattle.std.specs.Simd.{first_chunks}
use Rattle.taps.specs.Readings.{pick}
use Rattle.octets.specs.Bytes.{chunks}

-- the pieces, each read by itself
pub map_pieces : {X : Type 0} (f : List ℕ → X) (w n : ℕ) (bs : List ℕ) → map f (first_chunks w n bs) ≡ chunks f w n bs
map_pieces f w zero bs = refl
map_pieces f w (suc n) bs = grind (arith, map_pieces f w n (drop w bs))

pub length_pieces : (w n : ℕ) (bs : List ℕ) → length (first_chunks w n bs) ≡ n
length_pieces w zero bs = refl
length_pieces w (suc n) bs = ap suc (length_pieces w n (drop w bs))

-- a test of a list that asks the same of each is the test of each
pub list_all_is : {X : Type 0} (t : X → Bool) (q : List X → Bool) → q [] ≡ true → ((x : X) (xs : List X) → q (x ∷ xs) ≡ (t x && q xs)) → (xs : List X) → list_all t xs ≡ q xs
list_all_is t q none more [] = sym none
list_all_is t q none more (x ∷ xs) = grind (arith, list_all_is t q none more xs, more x xs)

-- the pieces of just the bytes that n pieces take
pub chunks_front : {X : Type 0} (f : List ℕ → X) (w n : ℕ) (bs : List ℕ) → chunks f w n (take (w * n) bs) ≡ chunks f w n bs
chunks_front f w zero bs = refl
chunks_front f w (suc n) bs = grind (arith, common_steps, take-take, drop-take w (w * n) bs, chunks_front f w n (drop w bs))

-- what `decode_all` answers for n pieces of w bytes, in the words of a caller
pub pieces_found : {X : Type 0} (f : List ℕ → X) (t : X → Bool) (q : List X → Bool) → q [] ≡ true → ((x : X) (xs : List X) → q (x ∷ xs) ≡ (t x && q xs)) →
    (w n most : ℕ) (bs : List ℕ) (pieces : List (List ℕ)) (r : Option (List X)) → pieces ≡ first_chunks w n bs →
    r ≡ pick (leb (length pieces) most && list_all t (map f pieces)) (Some (map f pieces)) None →
    r ≡ pick (leb n most && q (chunks f w n bs)) (Some (chunks f w n bs)) None
pieces_found f t q none more w n most bs pieces r here found = grind (arith, length_pieces w n bs, map_pieces f w n bs, list_all_is t q none more (chunks f w n bs))
