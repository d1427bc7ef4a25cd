-- What was written reads back, line by line.
use Rattle.std.proofs.Common.{◌≡◌, ℕ, suc, ◌+◌, ◌-◌, ◌<◌, ◌≤◌, true, ◌&&◌, List, [], ◌∷◌, ◌++◌, map, length, take, drop, Some, Ok, sym, refl, ap, ◌∙◌, arith, append-nil, append_assoc, nat_le, nat_lt}
use Rattle.std.specs.Prelude.{codes, decimal}
use Rattle.std.specs.Char.{is_ascii_whitespace}
use Rattle.std.specs.List.{flat_map}
use Rattle.std.proofs.lemmas.Bool.{and_parts, ltb-true}
use Rattle.std.proofs.lemmas.Bool.Decides.{nat_tests}
use Rattle.std.proofs.lemmas.Grind.{common_steps}
use Rattle.std.proofs.lemmas.List.{length-append}
use Rattle.taps.specs.Readings.{Kind}
use Rattle.taps.specs.Promise.{good_kind, good_kinds, good_tempi}
use Rattle.tokens.specs.Tokens.{is_line_end, lines_in, number_in, tokens_in}
use Rattle.tokens.proofs.Joined.{Whole, free, line_joined, one_token, token_joined, whole_joined}
use Rattle.tokens.proofs.Numbers.{number_reads}
use Rattle.tokens.proofs.Printed.{Small, number_in_line, number_some, number_whole, numbers_in_line, text_number, words_joined}
use Rattle.bookfile.specs.Books.{add_change, add_kind, add_tempi, add_tokens, in_front, kind_in, kind_of_numbers, listing, next, numbers_in, read_lines, take_line, ticks_in, timed, where_good, whole}
use Rattle.bookfile.specs.Laws.{BooksReturn}
use Rattle.bookfile.specs.Written.{change_text, kind_text, line_of, tempi_text}

-- a line in front of others
line_in_front : (xs ys : List ℕ) → Whole is_line_end xs → lines_in (line_of xs ++ ys) ≡ xs ∷ lines_in ys
line_in_front xs ys w = ap lines_in (append_assoc xs (10 ∷ []) ys) ∙ line_joined xs ys w

-- ticks with their comma
ticks_back : (ds : List ℕ) → ticks_in (ds ++ codes ",") ≡ number_in ds
ticks_back ds =
    let size : length (ds ++ codes ",") - 1 ≡ length ds = omega (arith, length-append ds (codes ",")) in
    let comma : drop (length (ds ++ codes ",") - 1) (ds ++ codes ",") ≡ codes "," = grind (arith, common_steps) in
    let digits : take (length (ds ++ codes ",") - 1) (ds ++ codes ",") ≡ ds = grind (arith, common_steps) in
    rw comma (ap number_in digits)

kind_tokens : (k : Kind) → k.ticks < 4294967296 → k.weight < 4294967296 → tokens_in (kind_text k) ≡ codes "note" ∷ ((decimal k.ticks ++ codes ",") ∷ (codes "weight" ∷ (decimal k.weight ∷ [])))
kind_tokens k t w =
    let ticks = decimal k.ticks ++ codes "," in
    let word : Whole is_ascii_whitespace ticks = whole_joined is_ascii_whitespace (decimal k.ticks) (codes ",") (number_whole k.ticks t) (free is_ascii_whitespace (codes ",") refl) in
    let some : 0 < length ticks = omega (arith, length-append (decimal k.ticks) (codes ",")) in
    let apart : decimal k.ticks ++ (codes ", weight " ++ decimal k.weight) ≡ ticks ++ 32 ∷ (codes "weight" ++ 32 ∷ decimal k.weight) =
    sym (append_assoc (decimal k.ticks) (codes ",") (codes " weight " ++ decimal k.weight)) in
    token_joined (codes "note") 32 (decimal k.ticks ++ (codes ", weight " ++ decimal k.weight)) (free is_ascii_whitespace (codes "note") refl) (omega arith) refl
    ∙ ap (λ ws. codes "note" ∷ ws)
    (ap tokens_in apart ∙ token_joined ticks 32 (codes "weight" ++ 32 ∷ decimal k.weight) word some refl
    ∙ ap (λ ws. ticks ∷ ws)
    (token_joined (codes "weight") 32 (decimal k.weight) (free is_ascii_whitespace (codes "weight") refl) (omega arith) refl
    ∙ ap (λ ws. codes "weight" ∷ ws) (one_token (decimal k.weight) (number_whole k.weight w) (number_some k.weight w))))

kind_told : (k : Kind) → k.ticks < 4294967296 → k.weight < 4294967296 → kind_in (codes "note" ∷ ((decimal k.ticks ++ codes ",") ∷ (codes "weight" ∷ (decimal k.weight ∷ [])))) ≡ Some k
kind_told k t w = (λ i. kind_of_numbers ((ticks_back (decimal k.ticks) ∙ number_reads k.ticks t) i) (number_reads k.weight w i))

kind_in_line : (k : Kind) → k.ticks < 4294967296 → k.weight < 4294967296 → Whole is_line_end (kind_text k)
kind_in_line k t w =
    let weight : Whole is_line_end (codes ", weight " ++ decimal k.weight) =
    text_number (codes ", weight ") k.weight refl w in
    let ticks = whole_joined is_line_end (decimal k.ticks) (codes ", weight " ++ decimal k.weight) (number_in_line k.ticks t) weight in
    whole_joined is_line_end (codes "note ") (decimal k.ticks ++ (codes ", weight " ++ decimal k.weight)) (free is_line_end (codes "note ") refl) ticks

kind_small : (k : Kind) → good_kind k ≡ true → (k.ticks < 4294967296) × (k.weight < 4294967296)
kind_small k good = (grind (arith, nat_tests), grind (arith, nat_tests))

kind_taken : (ks : List Kind) (k : Kind) → length ks < 32 → good_kind k ≡ true → take_line (listing ks) (kind_text k) ≡ Ok (listing (ks ++ k ∷ []))
kind_taken ks k few good =
    let small = kind_small k good in
    ap (add_tokens (listing ks)) (kind_tokens k small.0 small.1)
    ∙ ap (add_kind ks) (kind_told k small.0 small.1)
    ∙ grind (arith, nat_tests)

-- all kinds that there is room for
kinds_taken : (ks more : List Kind) (n : ℕ) (rest : List ℕ) → length ks + length more ≤ 32 → good_kinds more ≡ true →
    read_lines (listing ks) n (lines_in (flat_map (λ k. line_of (kind_text k)) more ++ rest)) ≡ read_lines (listing (ks ++ more)) (n + length more) (lines_in rest)
unfolding good_kinds
kinds_taken ks [] n rest few good =
    let same : n ≡ n + 0 = omega arith in
    (λ i. read_lines (listing (sym (append-nil ks) i)) (same i) (lines_in rest))
kinds_taken ks (k ∷ more) n rest few good =
    let parts = and_parts _ _ good in
    let small = kind_small k parts.0 in
    let behind = flat_map (λ k. line_of (kind_text k)) more ++ rest in
    let count : suc n + length more ≡ n + suc (length more) = omega arith in
    ap (λ text. read_lines (listing ks) n (lines_in text)) (append_assoc (line_of (kind_text k)) (flat_map (λ k. line_of (kind_text k)) more) rest)
    ∙ ap (read_lines (listing ks) n) (line_in_front (kind_text k) behind (kind_in_line k small.0 small.1))
    ∙ ap (λ r. next r n (λ d. read_lines d (suc n) (lines_in behind))) (kind_taken ks k (omega (arith, few)) parts.0)
    ∙ kinds_taken (ks ++ k ∷ []) more (suc n) rest (omega (arith, few, length-append ks (k ∷ []))) parts.1
    ∙ (λ i. read_lines (listing (append_assoc ks (k ∷ []) more i)) (count i) (lines_in rest))

-- each tempo is below the next, so all are as small as the last
tempi_small : (t : ℕ) (ts : List ℕ) → good_tempi (t ∷ ts) ≡ true → (t ≤ 4000) × Small ts
unfolding good_tempi
tempi_small t [] good = (grind (arith, nat_tests), tt)
tempi_small t (u ∷ us) good =
    let parts = and_parts (nat_le 100 t && nat_lt t u) (good_tempi (u ∷ us)) good in
    let rises = ltb-true t u (and_parts (nat_le 100 t) (nat_lt t u) parts.0).1 in
    let rest = tempi_small u us parts.1 in
    (omega (arith, rises, rest.0), (omega (arith, rest.0), rest.1))

numbers_back : (ts : List ℕ) → Small ts → numbers_in (map decimal ts) ≡ Some ts
numbers_back [] small = refl
numbers_back (t ∷ ts) small = (λ i. in_front (number_reads t small.0 i) (numbers_back ts small.1 i))

some_kinds : (ks : List Kind) (ts : List ℕ) → 0 < length ks → add_tempi ks (Some ts) ≡ Ok (timed ks ts)
some_kinds [] ts some = absurd (omega (arith, some))
some_kinds (k ∷ ks) ts some = refl

tempi_taken : (ks : List Kind) (ts : List ℕ) → 0 < length ks → 0 < length ts → length ts ≤ 64 → good_tempi ts ≡ true → Small ts → take_line (listing ks) (tempi_text ts) ≡ Ok (timed ks ts)
tempi_taken ks ts some_ks some few good small =
    let kept : where_good (Some ts) ≡ Some ts = grind (arith, nat_tests) in
    ap (add_tokens (listing ks)) (words_joined (codes "tempi") ts (free is_ascii_whitespace (codes "tempi") refl) (omega arith) small)
    ∙ ap (λ ns. add_tempi ks (where_good ns)) (numbers_back ts small)
    ∙ ap (add_tempi ks) kept
    ∙ some_kinds ks ts some_ks

change_taken : (ks : List Kind) (ts : List ℕ) (c : ℕ) → c < 65536 → take_line (timed ks ts) (change_text c) ≡ Ok (whole (record { kinds = ks; tempi = ts; change = c }))
change_taken ks ts c cheap =
    let small : c < 4294967296 = omega (arith, cheap) in
    ap (add_tokens (timed ks ts))
    (token_joined (codes "change") 32 (decimal c) (free is_ascii_whitespace (codes "change") refl) (omega arith) refl
    ∙ ap (λ ws. codes "change" ∷ ws) (one_token (decimal c) (number_whole c small) (number_some c small)))
    ∙ ap (add_change ks ts) (number_reads c small)
    ∙ grind (arith, nat_tests)

change_in_line : (c : ℕ) → c < 65536 → Whole is_line_end (change_text c)
change_in_line c cheap = text_number (codes "change ") c refl (omega (arith, cheap))

all_small : (ts : List ℕ) → good_tempi ts ≡ true → Small ts
all_small [] good = tt
all_small (t ∷ ts) good = let small = tempi_small t ts good in (omega (arith, small.0), small.1)

pub books_return : BooksReturn
books_return b good =
    let small = all_small b.tempi good.5 in
    let last = line_of (change_text b.change) in
    let n = length b.kinds in
    let tempi : lines_in (line_of (tempi_text b.tempi) ++ last) ≡ tempi_text b.tempi ∷ lines_in last =
    line_in_front (tempi_text b.tempi) last (whole_joined is_line_end (codes "tempi") (flat_map (λ t. codes " " ++ decimal t) b.tempi) (free is_line_end (codes "tempi") refl) (numbers_in_line b.tempi small)) in
    let change : lines_in last ≡ change_text b.change ∷ [] =
    ap lines_in (sym (append-nil last)) ∙ line_in_front (change_text b.change) [] (change_in_line b.change good.6) in
    kinds_taken [] b.kinds 0 (line_of (tempi_text b.tempi) ++ last) (omega (arith, good.1)) good.2
    ∙ ap (read_lines (listing b.kinds) (0 + n)) tempi
    ∙ ap (λ r. next r (0 + n) (λ d. read_lines d (suc (0 + n)) (lines_in last))) (tempi_taken b.kinds b.tempi good.0 good.3 good.4 good.5 small)
    ∙ ap (read_lines (timed b.kinds b.tempi) (suc (0 + n))) change
    ∙ ap (λ r. next r (suc (0 + n)) (λ d. read_lines d (suc (suc (0 + n))) [])) (change_taken b.kinds b.tempi b.change good.6)
