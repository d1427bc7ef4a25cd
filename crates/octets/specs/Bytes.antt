-- Numbers and lists as bytes, and bytes that are written into a lent slice. Assumes nothing: these are definitions.
--
-- two, four, eight: a number in so many bytes, the low one first. number: the number that bytes are, the low one first.
-- chunks: the front of a list of bytes cut into pieces of one width, each read by itself.
-- Bytes: that the numbers of a list are bytes.
-- room, written: what is answered, and left, where bytes or other numbers are written into a slice that is lent. StartsWith: a slice begins with some numbers.
use Rattle.std.specs.Prelude.{◌≡◌, ℕ, zero, suc, ◌+◌, ◌*◌, ◌/◌, ◌%◌, ◌<◌, List, [], ◌∷◌, ◌++◌, length, take, drop, Some, None, Option, nat_le, slice_index}
use Rattle.taps.specs.Readings.{pick}

abbrev pub two : ℕ → List ℕ
two n = n % 256 ∷ n / 256 % 256 ∷ []

abbrev pub four : ℕ → List ℕ
four n = n % 256 ∷ n / 256 % 256 ∷ n / 65536 % 256 ∷ n / 16777216 % 256 ∷ []

abbrev pub eight : ℕ → List ℕ
eight n = four n ++ four (n / 4294967296)

abbrev pub number : List ℕ → ℕ
number [] = 0
number (b ∷ bs) = b + 256 * number bs

abbrev pub Bytes : List ℕ → Type 0
Bytes bs = (i : ℕ) → slice_index bs i < 256

-- the first n pieces of w bytes, read one by one
abbrev pub chunks : {X : Type 0} → (List ℕ → X) → ℕ → ℕ → List ℕ → List X
chunks f w zero bytes = []
chunks f w (suc n) bytes = f (take w bytes) ∷ chunks f w n (drop w bytes)

-- how many were written, or none where the slice is too small for all of them
abbrev pub room : List ℕ → List ℕ → Option ℕ
room bytes out = pick (nat_le (length bytes) (length out)) (Some (length bytes)) None

-- all at the front of the slice and the rest as it was, or the whole as it was
abbrev pub written : List ℕ → List ℕ → List ℕ
written bytes out = pick (nat_le (length bytes) (length out)) (bytes ++ drop (length bytes) out) out

abbrev pub StartsWith : List ℕ → List ℕ → Type 0
StartsWith front out = take (length front) out ≡ front
