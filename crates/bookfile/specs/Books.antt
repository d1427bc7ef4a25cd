-- Which book the lines of a text are, and which fault they have. Assumes nothing: these are definitions.
--
-- Draft: a book as far as it was read. take_line: what a line adds to it, or why the line does not fit. read_lines: the same of all lines, by their numbers from 0.
-- book_in: the book that a text is, or its first fault.
-- Of several faults the first line's is told. In a kind's line the form comes first, then whether there are 32 kinds already, then the bounds; where the tempi come before any kind, that
-- comes before what they are.
use Rattle.std.specs.Prelude.{ℕ, suc, ◌-◌, Bool, false, ◌&&◌, ◌||◌, not, List, [], ◌∷◌, ◌++◌, length, take, drop, Some, None, Option, Ok, Err, Result, codes, bytes_eq, ◌==◌, nat_le, nat_lt, if◌then◌else◌}
use Rattle.std.specs.Char.{is_ascii_alphabetic}
use Rattle.std.specs.List.{list_all}
use Rattle.taps.specs.Readings.{Kind, Book}
use Rattle.taps.specs.Promise.{good_kind, good_tempi}
use Rattle.tokens.specs.Tokens.{lines_in, number_in, tokens_in}
use Rattle.bookfile.specs.declared.fault.Fault.{Fault}
use Rattle.bookfile.specs.declared.fault.Reason.{Reason}
use Rattle.bookfile.specs.declared.fault.Reason.TheVariants.{NoKind, TooManyKinds, KindBounds, KindsMissing, BadTempi, BadChange, Behind, Unfinished}

pub data Draft : Type 0 where
  listing : List Kind → Draft  -- the kinds so far
  timed : List Kind → List ℕ → Draft  -- all kinds, and the tempi
  whole : Book → Draft

-- letters and dashes, but not the word that begins the last line; a token is never empty
abbrev pub is_name : List ℕ → Bool
is_name word = list_all (λ c. is_ascii_alphabetic c || c == 45) word && not (bytes_eq word (codes "change"))

-- digits with a comma right behind
abbrev pub ticks_in : List ℕ → Option ℕ
ticks_in word = if bytes_eq (drop (length word - 1) word) (codes ",") then number_in (take (length word - 1) word) else None

abbrev pub kind_of_numbers : Option ℕ → Option ℕ → Option Kind
kind_of_numbers None weight = None
kind_of_numbers (Some ticks) None = None
kind_of_numbers (Some ticks) (Some weight) = Some (record { ticks = ticks; weight = weight })

-- what a line `NAME TICKS, weight WEIGHT` tells, within bounds or not
abbrev pub kind_in : List (List ℕ) → Option Kind
kind_in (name ∷ (ticks ∷ (word ∷ (weight ∷ [])))) = if is_name name && bytes_eq word (codes "weight") then kind_of_numbers (ticks_in ticks) (number_in weight) else None
kind_in _ = None

abbrev pub add_kind : List Kind → Option Kind → Result Draft Reason
add_kind ks None = Err NoKind
add_kind ks (Some k) = if nat_lt (length ks) 32 then (if good_kind k then Ok (listing (ks ++ k ∷ [])) else Err KindBounds) else Err TooManyKinds

abbrev pub in_front : Option ℕ → Option (List ℕ) → Option (List ℕ)
in_front None ns = None
in_front (Some n) None = None
in_front (Some n) (Some ns) = Some (n ∷ ns)

-- the numbers that words are, where each is one
abbrev pub numbers_in : List (List ℕ) → Option (List ℕ)
numbers_in [] = Some []
numbers_in (w ∷ ws) = in_front (number_in w) (numbers_in ws)

abbrev pub where_good : Option (List ℕ) → Option (List ℕ)
where_good None = None
where_good (Some ts) = if (nat_lt 0 (length ts) && nat_le (length ts) 64) && good_tempi ts then Some ts else None

-- the tempi behind the word `tempi`
abbrev pub tempi_in : List (List ℕ) → Option (List ℕ)
tempi_in words = where_good (numbers_in words)

abbrev pub add_tempi : List Kind → Option (List ℕ) → Result Draft Reason
add_tempi [] ts = Err KindsMissing
add_tempi (k ∷ ks) None = Err BadTempi
add_tempi (k ∷ ks) (Some ts) = Ok (timed (k ∷ ks) ts)

-- what a line `change C` tells, within bounds or not
abbrev pub change_in : List (List ℕ) → Option ℕ
change_in (word ∷ (c ∷ [])) = if bytes_eq word (codes "change") then number_in c else None
change_in _ = None

abbrev pub add_change : List Kind → List ℕ → Option ℕ → Result Draft Reason
add_change ks ts None = Err BadChange
add_change ks ts (Some c) = if nat_lt c 65536 then Ok (whole (record { kinds = ks; tempi = ts; change = c })) else Err BadChange

-- what the tokens of a line add, which is not passed over
abbrev pub take_tokens : Draft → List ℕ → List (List ℕ) → Result Draft Reason
take_tokens (listing ks) w ws = if bytes_eq w (codes "tempi") then add_tempi ks (tempi_in ws) else add_kind ks (kind_in (w ∷ ws))
take_tokens (timed ks ts) w ws = add_change ks ts (change_in (w ∷ ws))
take_tokens (whole b) w ws = Err Behind

abbrev pub is_comment : List ℕ → Bool
is_comment [] = false
is_comment (c ∷ cs) = c == 35

-- blank lines and comments add nothing
abbrev pub add_tokens : Draft → List (List ℕ) → Result Draft Reason
add_tokens d [] = Ok d
add_tokens d (w ∷ ws) = if is_comment w then Ok d else take_tokens d w ws

abbrev pub take_line : Draft → List ℕ → Result Draft Reason
take_line d line = add_tokens d (tokens_in line)

abbrev pub fault : {A : Type 0} → ℕ → Reason → Result A Fault
fault n r = Err (record { line = n; reason = r })

-- the book, where all of it was read; n is the number of the line that is missing else
abbrev pub finish : Draft → ℕ → Result Book Fault
finish (listing ks) n = fault n Unfinished
finish (timed ks ts) n = fault n Unfinished
finish (whole b) n = Ok b

-- on with the next line, or the fault of this one
abbrev pub next : {A : Type 0} → Result Draft Reason → ℕ → (Draft → Result A Fault) → Result A Fault
next (Ok d) n go = go d
next (Err r) n go = fault n r

-- n is the number of the first of the lines
abbrev pub read_lines : Draft → ℕ → List (List ℕ) → Result Book Fault
read_lines d n [] = finish d n
read_lines d n (l ∷ ls) = next (take_line d l) n (λ e. read_lines e (suc n) ls)

abbrev pub book_in : List ℕ → Result Book Fault
book_in text = read_lines (listing []) 0 (lines_in text)
