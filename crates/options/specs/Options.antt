-- What the words of a command line ask for. Assumes nothing: these are definitions.
--
-- Request: what a program is asked for. asked_in: what words ask for, or the first of them that can't be understood.
-- Options stand in any order, before or behind the input; one that is given twice counts as it is given last. Where help is asked for, no word behind that counts.
use Rattle.std.specs.Prelude.{ℕ, Bool, false, ◌&&◌, ◌||◌, List, [], ◌∷◌, Some, None, Option, Ok, Err, Result, codes, bytes_eq, ◌==◌, nat_le, if◌then◌else◌}
use Rattle.tokens.specs.Tokens.{number_in}

pub record Request : Type 0 where
  pub book : Option (List ℕ)  -- its file; none for the built-in book
  pub limit : ℕ  -- how many taps are taken
  pub input : Option (List ℕ)  -- the file that is read; none for standard input

pub data Asked : Type 0 where
  help : Asked
  run : Request → Asked

pub data BadOption : Type 0 where
  book_missing : BadOption
  limit_missing : BadOption
  bad_limit : List ℕ → BadOption
  unknown : List ℕ → BadOption
  second_file : BadOption

-- words as far as they were read
pub data Draft : Type 0 where
  at_any : Request → Draft  -- the next word is an option or the input
  at_book : Request → Draft  -- the next word is the book's file
  at_limit : Request → Draft  -- the next word is the limit
  helping : Draft  -- help was asked for, and no word behind that counts

abbrev pub with_book : Request → List ℕ → Request
with_book r w = record { book = Some w; limit = r.limit; input = r.input }

abbrev pub with_limit : Request → ℕ → Request
with_limit r n = record { book = r.book; limit = n; input = r.input }

abbrev pub with_input : Request → List ℕ → Request
with_input r w = record { book = r.book; limit = r.limit; input = Some w }

-- at most as many as a desk may hold
abbrev pub at_most_all : Option ℕ → Option ℕ
at_most_all None = None
at_most_all (Some n) = if nat_le n 256 then Some n else None

abbrev pub limit_in : List ℕ → Option ℕ
limit_in text = at_most_all (number_in text)

abbrev pub is_help : List ℕ → Bool
is_help w = bytes_eq w (codes "--help") || bytes_eq w (codes "-h")

abbrev pub is_book : List ℕ → Bool
is_book w = bytes_eq w (codes "--book")

abbrev pub is_limit : List ℕ → Bool
is_limit w = bytes_eq w (codes "--limit")

-- what begins with a dash
abbrev pub is_option : List ℕ → Bool
is_option [] = false
is_option (c ∷ cs) = c == 45

abbrev pub first_input : Option (List ℕ) → Request → List ℕ → Result Draft BadOption
first_input None r w = Ok (at_any (with_input r w))
first_input (Some v) r w = Err second_file

abbrev pub take_input : Request → List ℕ → Result Draft BadOption
take_input r w = first_input r.input r w

-- a word where an option or the input may stand
abbrev pub take_first : Bool → Request → List ℕ → Result Draft BadOption
take_first takes_limit r w =
    if is_help w then Ok helping else
    if is_book w then Ok (at_book r) else
    if is_limit w && takes_limit then Ok (at_limit r) else
    if is_option w then Err (unknown w) else
    take_input r w

abbrev pub take_limit : Option ℕ → Request → List ℕ → Result Draft BadOption
take_limit None r w = Err (bad_limit w)
take_limit (Some n) r w = Ok (at_any (with_limit r n))

abbrev pub take_word : Bool → Draft → List ℕ → Result Draft BadOption
take_word takes_limit (at_any r) w = take_first takes_limit r w
take_word takes_limit (at_book r) w = Ok (at_any (with_book r w))
take_word takes_limit (at_limit r) w = take_limit (limit_in w) r w
take_word takes_limit helping w = Ok helping

abbrev pub finish : Draft → Result Asked BadOption
finish (at_any r) = Ok (run r)
finish (at_book r) = Err book_missing
finish (at_limit r) = Err limit_missing
finish helping = Ok help

-- on with the next word, or why this one can't be understood
abbrev pub next : Result Draft BadOption → (Draft → Result Asked BadOption) → Result Asked BadOption
next (Ok d) go = go d
next (Err e) go = Err e

abbrev pub read_words : Bool → Draft → List (List ℕ) → Result Asked BadOption
read_words takes_limit d [] = finish d
read_words takes_limit d (w ∷ ws) = next (take_word takes_limit d w) (λ e. read_words takes_limit e ws)

-- where no word was read yet
abbrev pub start : Draft
start = at_any (record { book = None; limit = 256; input = None })

-- takes_limit: whether `--limit` is an option
abbrev pub asked_in : Bool → List (List ℕ) → Result Asked BadOption
asked_in takes_limit words = read_words takes_limit start words
