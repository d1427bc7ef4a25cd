-- Numbers, most often bytes, that are written from the front of a slice on, piece by piece.
use Rattle.std.proofs.Common.{◌≡◌, ℕ, ◌+◌, ◌<◌, ◌≤◌, List, [], ◌∷◌, ◌++◌, length, take, drop, set, Some, refl, sym, ap, ◌∙◌, arith}
use Rattle.std.proofs.lemmas.Bool.Decides.{nat_tests}
use Rattle.std.proofs.lemmas.Grind.{common_steps}
use borrow.Rule.Slice.PartMut.{put_mid}
use Rattle.std.proofs.lemmas.List.{drop_more, drop-drop, take-take, take_at, set_at, append_assoc, length-append, length-take}
use Rattle.octets.specs.Bytes.{StartsWith, room, written}

-- `out` begins with bs, and the rest is what `old` has there
abbrev pub Front : List ℕ → List ℕ → List ℕ → Type 0
Front old out bs = out ≡ bs ++ drop (length bs) old

-- one number written behind the front
pub front_one : (old out bs : List ℕ) (n b : ℕ) → Front old out bs → length bs ≡ n → n < length old → Front old (set out n b) (bs ++ b ∷ [])
front_one old out bs n b front size inside = let rest = drop_more old n 0 inside in grind (arith, set_at, append_assoc, length-append)

-- a part written behind the front
pub front_part : (old out bs ys : List ℕ) (n k : ℕ) → Front old out bs → length bs ≡ n → length ys ≡ k → Front old (put_mid n k out ys) (bs ++ ys)
front_part old out bs ys n k front size part = grind (arith, common_steps)

-- nothing is written yet
pub front_none : (old : List ℕ) → Front old old []
front_none old = refl

-- all bytes are written, where they fit
pub all_written : (old out bs : List ℕ) (n : ℕ) → Front old out bs → length bs ≡ n → n ≤ length old → (Some n ≡ room bs old) × (out ≡ written bs old)
all_written old out bs n front size fits = (grind (arith, common_steps), grind (arith, common_steps))

-- what is written into a part at the front of a slice, of just its size, is written into the slice
pub written_front : (old bs front rest : List ℕ) (n : ℕ) → length bs ≡ n → n ≤ length old → front ≡ take n old → rest ≡ drop n old → written bs front ++ rest ≡ written bs old
written_front old bs front rest n size fits first last = grind (arith, common_steps)

-- nothing that is written makes a slice longer or shorter
pub written_size : (xs old : List ℕ) → length (written xs old) ≡ length old
written_size xs old = grind (arith, nat_tests, common_steps)

-- what was written is read again in as many places from the front
pub read_back : (bs old out : List ℕ) (n : ℕ) → Some n ≡ room bs old → out ≡ written bs old → take n out ≡ bs
read_back bs old out n size left = grind (arith, nat_tests, common_steps)

-- what starts with some numbers is no shorter, and stays as it is where they are written
pub starts_long : (xs words : List ℕ) → StartsWith xs words → length xs ≤ length words
starts_long xs words h = omega (arith, ap length h, length-take (length xs) words)

pub starts_same : (xs words : List ℕ) → StartsWith xs words → words ≡ written xs words
starts_same xs words h = grind (arith, common_steps, starts_long xs words h)

-- it starts with the first of them, too
pub starts_first : (xs ys words : List ℕ) → StartsWith (xs ++ ys) words → StartsWith xs words
starts_first xs ys words h =
    let fewer : length xs ≤ length (xs ++ ys) = omega (arith, length-append xs ys) in
    sym (take-take (length xs) (length (xs ++ ys)) words fewer) ∙ ap (take (length xs)) h ∙ take_at xs ys (length xs) refl

-- what is written is started with
pub starts_written : (xs words : List ℕ) → length xs ≤ length words → StartsWith xs (written xs words)
starts_written xs words fits = grind (arith, common_steps)

-- numbers that are written behind others which the words start with
pub written_on : (xs ys words front rest : List ℕ) (k m : ℕ) → StartsWith xs words → length xs ≡ k → length ys ≡ m → k + m ≤ length words → front ≡ take k words → rest ≡ drop m (drop k words) →
    front ++ (ys ++ rest) ≡ written (xs ++ ys) words
written_on xs ys words front rest k m starts size_x size_y fits first last =
    let size : length (xs ++ ys) ≡ k + m = omega (arith, length-append xs ys) in
    let same : front ≡ xs = first ∙ ap (λ i. take i words) (sym size_x) ∙ starts in
    let behind : rest ≡ drop (k + m) words = last ∙ drop-drop m k words in
    ap (λ zs. zs ++ (ys ++ rest)) same ∙ sym (append_assoc xs ys rest) ∙ grind (arith, nat_tests, size, fits, behind)
