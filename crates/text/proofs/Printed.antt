-- What a note is printed as, read again; and the tokens of a reading that was printed. Assumes nothing.
use Rattle.std.proofs.Common.{◌≡◌, ℕ, ◌+◌, ◌<◌, ◌≤◌, false, eqb, List, [], ◌∷◌, ◌++◌, length, map, Some, Ok, refl, ap, ◌∙◌, append-nil, arith}
use Rattle.std.specs.Prelude.{decimal}
use Rattle.std.specs.Char.{is_ascii_whitespace}
use Rattle.std.specs.List.{position}
use Rattle.std.specs.Option.{ok_or, option_map, option_zip}
use Rattle.std.proofs.lemmas.Bool.Decides.{nat_tests}
use Rattle.std.proofs.lemmas.List.{length-append}
use Rattle.tokens.specs.Tokens.{behind, number_in, tokens_in}
use Rattle.tokens.proofs.Joined.{Whole, before_joined, behind_joined, decimal_whole, one_token, token_joined, whole_joined}
use Rattle.tokens.proofs.Numbers.{number_reads}
use Rattle.tokens.proofs.Printed.{number_some, number_whole}
use Rattle.taps.specs.Readings.{Book, Read, kind_at, tempo_at}
use Rattle.taps.specs.Promise.{GoodBook}
use Rattle.statements.proofs.Bound.{kind_good, tempo_good}
use Rattle.text.specs.Lines.{note_text, reading_text}
use Rattle.text.specs.Notes.{is_at, lightest, note_in, read_as, read_at, read_in, read_of_note}
use Rattle.text.specs.declared.reading.Unread.TheVariants.{NotInBook}
use Rattle.text.proofs.Meant.{kind_found, kind_meant, place_found}

-- numbers that are printed short enough to be read
pub note_short : (b : Book) (r : Read) → GoodBook b → ((kind_at b r.kind).ticks < 4294967296) × (tempo_at b r.tempo < 4294967296)
note_short b r good = (omega (arith, (kind_good b.kinds r.kind good.2).0), omega (arith, tempo_good b.tempi r.tempo good.5))

-- a note of such numbers is a token, and is read as them
digit_not_at : (d : ℕ) → d < 10 → is_at (48 + d) ≡ false
digit_not_at d h = grind (arith, nat_tests)

note_again : (n m : ℕ) → n < 4294967296 → m < 4294967296 → note_in (decimal n ++ (64 ∷ decimal m)) ≡ Some (n, m)
note_again n m h i =
    let digits = decimal_whole is_at digit_not_at n (omega (arith, h)) in
    let first = ap number_in (before_joined is_at (decimal n) 64 (decimal m) digits refl) ∙ number_reads n h in
    let second = ap number_in (behind_joined is_at (decimal n) 64 (decimal m) digits refl) ∙ number_reads m i in
    ap (λ o. option_zip o (number_in (behind is_at (decimal n ++ 64 ∷ decimal m)))) first ∙ ap (option_zip (Some n)) second

note_whole : (n m : ℕ) → n < 4294967296 → m < 4294967296 → Whole is_ascii_whitespace (decimal n ++ (64 ∷ decimal m))
note_whole n m h i =
    whole_joined is_ascii_whitespace (decimal n) (64 ∷ decimal m) (number_whole n h) (refl, number_whole m i)

note_some : (n : ℕ) (ys : List ℕ) → n < 4294967296 → 0 < length (decimal n ++ ys)
note_some n ys h = omega (arith, length-append (decimal n) ys, number_some n h)

-- a reading's tokens are its notes
note_token : (b : Book) (r : Read) → GoodBook b → Whole is_ascii_whitespace (note_text b r) × (0 < length (note_text b r))
note_token b r good =
    let n = (note_short b r good).0 in
    (note_whole (kind_at b r.kind).ticks (tempo_at b r.tempo) n (note_short b r good).1, note_some (kind_at b r.kind).ticks (64 ∷ decimal (tempo_at b r.tempo)) n)

pub tokens_again : (b : Book) (r : Read) (rs : List Read) → GoodBook b → tokens_in (reading_text b (r ∷ rs)) ≡ map (note_text b) (r ∷ rs)
tokens_again b r [] good =
    let t = note_token b r good in
    ap tokens_in (append-nil (note_text b r)) ∙ one_token (note_text b r) t.0 t.1
tokens_again b r (q ∷ qs) good =
    let t = note_token b r good in
    token_joined (note_text b r) 32 (reading_text b (q ∷ qs)) t.0 t.1 refl ∙ ap (λ ts. note_text b r ∷ ts) (tokens_again b q qs good)

pub note_is : (b : Book) (r : Read) → GoodBook b → note_in (note_text b r) ≡ Some ((kind_at b r.kind).ticks, tempo_at b r.tempo)
note_is b r good = note_again (kind_at b r.kind).ticks (tempo_at b r.tempo) (note_short b r good).0 (note_short b r good).1

-- s is a read of the book that is printed as r and costs no more
pub record Alike (b : Book) (r s : Read) : Type 0 where
  pub kind : s.kind < length b.kinds
  pub tempo : s.tempo < length b.tempi
  pub ticks : (kind_at b s.kind).ticks ≡ (kind_at b r.kind).ticks
  pub weight : (kind_at b s.kind).weight ≤ (kind_at b r.kind).weight
  pub beat : tempo_at b s.tempo ≡ tempo_at b r.tempo

pub read_again : (b : Book) (r : Read) → GoodBook b → r.kind < length b.kinds → r.tempo < length b.tempi → (s : Read) × ((i : ℕ) → read_in b i (note_text b r) ≡ Ok s) × Alike b r s
read_again b r good inside within =
    let ticks = (kind_at b r.kind).ticks in
    let beat = tempo_at b r.tempo in
    let k = kind_found b ticks (length b.kinds) r.kind (lightest b ticks) (kind_meant b ticks (length b.kinds)) inside refl in
    let t = place_found beat b.tempi r.tempo within refl in
    let found : read_as b (ticks, beat) ≡ Some (read_at (k.0, t.0)) = ap (λ o. option_map read_at (option_zip o (position (λ t. eqb t beat) b.tempi))) k.1 ∙ ap (λ o. option_map read_at (option_zip (Some k.0) o)) t.1 in
    (read_at (k.0, t.0), λ i. ap (read_of_note b i) (note_is b r good) ∙ ap (λ o. ok_or o (NotInBook i)) found, record { kind = k.2; tempo = t.2; ticks = k.3; weight = k.4; beat = t.3 })
