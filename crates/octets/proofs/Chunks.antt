-- Lists cut into pieces of one width, and joined again.
use Rattle.std.proofs.Common.{◌≡◌, ℕ, zero, suc, ◌+◌, ◌*◌, ◌<◌, ◌≤◌, List, [], ◌∷◌, ◌++◌, map, length, get_or, take, drop, refl, ap, mul-suc, arith, take-add}
use Rattle.std.proofs.lemmas.Grind.{common_steps}
use Rattle.std.specs.List.{flat_map}
use Rattle.std.proofs.lemmas.List.{get_or-take, get_or_past, length-drop, length-take-le, drop_more}
use Rattle.octets.specs.Bytes.{chunks, Bytes}

pub length_chunks : {X : Type 0} (f : List ℕ → X) (w n : ℕ) (bs : List ℕ) → length (chunks f w n bs) ≡ n
length_chunks f w zero bs = refl
length_chunks f w (suc n) bs = ap suc (length_chunks f w n (drop w bs))

-- what was joined from pieces of w bytes is cut into these again
pub chunks_joined : {X : Type 0} (f : List ℕ → X) (g : X → List ℕ) (w : ℕ) → ((x : X) → length (g x) ≡ w) → (xs : List X) (rest : List ℕ) → chunks f w (length xs) (flat_map g xs ++ rest) ≡ map (λ x. f (g x)) xs
chunks_joined f g w size [] rest = refl
chunks_joined f g w size (x ∷ xs) rest = grind (arith, common_steps, size x, chunks_joined f g w size xs rest)

pub length_joined : {X : Type 0} (g : X → List ℕ) (w : ℕ) → ((x : X) → length (g x) ≡ w) → (xs : List X) → length (flat_map g xs) ≡ w * length xs
length_joined g w size [] = grind (arith, common_steps)
length_joined g w size (x ∷ xs) = grind (arith, common_steps, size x, length_joined g w size xs)

-- parts of bytes are bytes
pub bytes_drop : (n : ℕ) (bs : List ℕ) → Bytes bs → Bytes (drop n bs)
bytes_drop n bs all i = grind (arith, common_steps, all (n + i))

pub bytes_take : (n : ℕ) (bs : List ℕ) → Bytes bs → Bytes (take n bs)
bytes_take n bs all i = grind (arith, common_steps, all i, get_or-take, get_or_past)

-- and so are bytes behind bytes
pub bytes_append : (xs ys : List ℕ) → Bytes xs → Bytes ys → Bytes (xs ++ ys)
bytes_append [] ys first rest i = rest i
bytes_append (x ∷ xs) ys first rest zero = first 0
bytes_append (x ∷ xs) ys first rest (suc i) = bytes_append xs ys (λ j. first (suc j)) rest i

-- pieces of w bytes that are written back one by one are the bytes that they were cut from
pub joined_chunks : {X : Type 0} (f : List ℕ → X) (g : X → List ℕ) (w : ℕ) → ((p : List ℕ) → length p ≡ w → Bytes p → g (f p) ≡ p) →
    (n : ℕ) (bs : List ℕ) → w * n ≤ length bs → Bytes bs → flat_map g (chunks f w n bs) ≡ take (w * n) bs
joined_chunks f g w back zero bs room all = grind (arith, common_steps)
joined_chunks f g w back (suc n) bs room all =
    let first = back (take w bs) (length-take-le w bs (omega (arith, mul-suc w n))) (bytes_take w bs all) in
    let rest = joined_chunks f g w back n (drop w bs) (omega (arith, length-drop w bs, mul-suc w n)) (bytes_drop w bs all) in
    grind (arith, common_steps, first, rest, take-add w (w * n) bs)

-- the first element and the rest
pub headed : (bs : List ℕ) (i : ℕ) → i < length bs → drop i bs ≡ get_or bs i 0 ∷ drop (1 + i) bs
headed bs i inside = grind (arith, common_steps, drop_more)
