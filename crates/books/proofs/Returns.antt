-- What was written reads back as the same, and so no two that differ are written alike.
use Rattle.std.proofs.Common.{◌≡◌, ℕ, ◌+◌, ◌*◌, ◌≤◌, true, List, [], ◌∷◌, ◌++◌, map, length, get_or, take, drop, Some, sym, refl, ap, ◌∙◌, arith}
use Rattle.std.specs.List.{flat_map}
use Rattle.std.proofs.lemmas.List.{append_assoc, drop_at, drop-drop, get_or_at, length-append}
use Rattle.std.proofs.lemmas.Bool.{ltb-true, and_parts}
use Rattle.taps.specs.Readings.{Kind, Book}
use Rattle.taps.specs.Promise.{GoodBook, good_kinds, good_tempi}
use Rattle.octets.specs.Bytes.{two, four, chunks, number, room, written}
use Rattle.octets.proofs.Chunks.{chunks_joined, length_joined}
use Rattle.octets.proofs.Front.{read_back}
use Rattle.octets.proofs.Numbers.{two_back, four_back}
use Rattle.octets.proofs.Found.{same_from_bytes}
use Rattle.books.specs.Books.{book_bytes, book_in, kind_bytes, kind_in}
use Rattle.books.specs.Laws.{BooksReturn, BooksApart}
use Rattle.books.proofs.Written.{length_book}

-- what is joined from pieces and cut again, where each piece reads back
kinds_back : (ks : List Kind) → good_kinds ks ≡ true → map (λ k. kind_in (kind_bytes k)) ks ≡ ks
unfolding good_kinds
kinds_back [] h = refl
kinds_back (k ∷ ks) h = grind (arith, four_back k.weight, kinds_back ks)

-- each tempo is below the next, so all are as small as the last
tempi_back : (ts : List ℕ) → good_tempi ts ≡ true → (get_or ts 0 0 ≤ 4000) × (map (λ t. number (two t)) ts ≡ ts)
unfolding good_tempi
tempi_back [] h = (omega arith, refl)
tempi_back (t ∷ []) h = grind (arith, two_back t)
tempi_back (t ∷ (u ∷ us)) h =
    let parts = and_parts _ _ h in
    let rises = ltb-true t u (and_parts _ _ parts.0).1 in
    let rest = tempi_back (u ∷ us) parts.1 in
    let small : t ≤ 4000 = omega (arith, rises, rest.0) in
    (small, ap (λ x. x ∷ map (λ t. number (two t)) (u ∷ us)) (two_back t (omega (arith, small))) ∙ ap (λ xs. t ∷ xs) rest.1)

pub books_return : BooksReturn
books_return b good =
    let n : ℕ = length b.kinds in
    let m : ℕ = length b.tempi in
    let bs : List ℕ = book_bytes b in
    let ks : List ℕ = flat_map kind_bytes b.kinds in
    let ts : List ℕ = flat_map two b.tempi in
    let many : length ks ≡ 5 * n = length_joined kind_bytes 5 (λ _. refl) b.kinds in
    let few : length ts ≡ 2 * m = length_joined two 2 (λ _. refl) b.tempi in
    let count : m ≡ get_or bs (1 + 5 * n) 0 = sym (get_or_at (n ∷ ks) m (ts ++ four b.change) 0 (1 + 5 * n) (omega arith)) in
    let past-kinds : drop (1 + (1 + 5 * n)) bs ≡ ts ++ four b.change =
    ap (λ l. drop (1 + (1 + 5 * n)) (n ∷ l)) (sym (append_assoc ks (m ∷ []) (ts ++ four b.change)))
    ∙ drop_at (n ∷ (ks ++ m ∷ [])) (ts ++ four b.change) (1 + (1 + 5 * n)) (omega (arith, length-append ks (m ∷ []))) in
    let past-tempi : drop (1 + (1 + 5 * n) + 2 * m) bs ≡ four b.change =
    sym (drop-drop (2 * m) (1 + (1 + 5 * n)) bs) ∙ ap (drop (2 * m)) past-kinds ∙ drop_at ts (four b.change) (2 * m) few in
    let kinds : chunks kind_in 5 n (drop 1 bs) ≡ b.kinds =
    chunks_joined kind_in kind_bytes 5 (λ _. refl) b.kinds _ ∙ kinds_back b.kinds good.2 in
    let tempi : chunks number 2 m (drop (1 + (1 + 5 * n)) bs) ≡ b.tempi =
    ap (chunks number 2 m) past-kinds ∙ chunks_joined number two 2 (λ _. refl) b.tempi _
    ∙ (tempi_back b.tempi good.5).1 in
    let change : number (drop (1 + (1 + 5 * n) + 2 * m) bs) ≡ b.change = ap number past-tempi ∙ four_back b.change (omega (arith, good.6)) in
    grind (arith, length_book b)

-- what a book was written as is read in as many places from the front
pub book_read : (b : Book) (old out : List ℕ) (n : ℕ) → GoodBook b → Some n ≡ room (book_bytes b) old → out ≡ written (book_bytes b) old → book_in (take n out) ≡ Some b
book_read b old out n good size left = ap book_in (read_back (book_bytes b) old out n size left) ∙ books_return b good

pub books_apart : BooksApart
books_apart b c h k = same_from_bytes book_in book_bytes b c (books_return b h) (books_return c k)
