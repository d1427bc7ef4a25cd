-- Text cut into lines, a line into tokens, and the number that digits are. Assumes nothing: these are definitions.
--
-- Text is a list of bytes. A line ends with a line feed, which the last one may do without. A token is what stands between blanks; blanks are space, tab, line feed, form feed and
-- carriage return.
-- parts: what stands between bytes of some kind. before, behind: what stands before the first such byte, and what behind it.
-- visible: text from its first byte on that is no blank. number_in: what digits are, cut back to what 32 bits hold.
use Rattle.std.specs.Prelude.{ℕ, suc, ◌+◌, ◌-◌, ◌*◌, min, Bool, ◌&&◌, List, [], ◌∷◌, ◌++◌, take, drop, Some, None, Option, ◌==◌, nat_le, if◌then◌else◌}
use Rattle.std.specs.Char.{is_ascii_whitespace}
use Rattle.std.specs.List.{position_or_len}

-- a byte more in front of the first part
abbrev pub onto : ℕ → List (List ℕ) → List (List ℕ)
onto c [] = (c ∷ []) ∷ []
onto c (p ∷ ps) = (c ∷ p) ∷ ps

-- what stands between the bytes that end a part, before the first and behind the last, empty parts too
abbrev pub parts : (ℕ → Bool) → List ℕ → List (List ℕ)
parts ends [] = [] ∷ []
parts ends (c ∷ cs) = if ends c then [] ∷ parts ends cs else onto c (parts ends cs)

-- a part where it is not empty
abbrev pub unless_empty : List ℕ → List (List ℕ)
unless_empty [] = []
unless_empty (c ∷ cs) = (c ∷ cs) ∷ []

-- all parts but an empty last one: behind the end of the last line stands no further line
abbrev pub until_end : List (List ℕ) → List (List ℕ)
until_end [] = []
until_end (p ∷ []) = unless_empty p
until_end (p ∷ (q ∷ ps)) = p ∷ until_end (q ∷ ps)

-- all parts but empty ones
abbrev pub filled : List (List ℕ) → List (List ℕ)
filled [] = []
filled (p ∷ ps) = unless_empty p ++ filled ps

abbrev pub is_byte : ℕ → ℕ → Bool
is_byte byte c = c == byte

abbrev pub is_line_end : ℕ → Bool
is_line_end = is_byte 10

abbrev pub lines_in : List ℕ → List (List ℕ)
lines_in text = until_end (parts is_line_end text)

abbrev pub tokens_in : List ℕ → List (List ℕ)
tokens_in line = filled (parts is_ascii_whitespace line)

abbrev pub before : (ℕ → Bool) → List ℕ → List ℕ
before ends text = take (position_or_len ends text) text

abbrev pub behind : (ℕ → Bool) → List ℕ → List ℕ
behind ends text = drop (suc (position_or_len ends text)) text

abbrev pub visible : List ℕ → List ℕ
visible [] = []
visible (c ∷ cs) = if is_ascii_whitespace c then visible cs else c ∷ cs

-- n and then the digits, never past 2^32 - 1; none where a byte is no digit
abbrev pub digits_in : ℕ → List ℕ → Option ℕ
digits_in n [] = Some n
digits_in n (d ∷ ds) = if nat_le 48 d && nat_le d 57 then digits_in (min (10 * n + (d - 48)) 4294967295) ds else None

-- one digit or more
abbrev pub number_in : List ℕ → Option ℕ
number_in [] = None
number_in (d ∷ ds) = digits_in 0 (d ∷ ds)
