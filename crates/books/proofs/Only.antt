-- What is read as something is just what that is written as.
use Rattle.std.proofs.Common.{◌≡◌, ℕ, ◌+◌, ◌*◌, List, ◌∷◌, ◌++◌, length, get_or, take, drop, sym, ap, ◌∙◌, arith}
use Rattle.std.specs.List.{flat_map}
use Rattle.std.proofs.lemmas.List.{drop-drop, length-drop, take-append-drop}
use Rattle.taps.specs.Readings.{Kind}
use Rattle.octets.specs.Bytes.{Bytes, number, two, four, chunks}
use Rattle.octets.proofs.Chunks.{length_chunks, bytes_drop, joined_chunks, headed}
use Rattle.octets.proofs.Numbers.{two_whole, four_whole}
use Rattle.books.specs.Books.{kind_in, kind_bytes}
use Rattle.books.specs.Laws.{BooksOnly}

kind_whole : (p : List ℕ) → length p ≡ 5 → Bytes p → kind_bytes (kind_in p) ≡ p
kind_whole p size all =
    let weight : four (number (drop 1 p)) ≡ drop 1 p = four_whole (drop 1 p) (omega (arith, length-drop 1 p)) (bytes_drop 1 p all) in
    ap (λ l. get_or p 0 0 ∷ l) weight ∙ sym (headed p 0 (omega arith))

pub books_only : BooksOnly
books_only bs b all e =
    let n : ℕ = get_or bs 0 0 in
    let m : ℕ = get_or bs (1 + 5 * n) 0 in
    let ks : List Kind = chunks kind_in 5 n (drop 1 bs) in
    let ts : List ℕ = chunks number 2 m (drop (1 + (1 + 5 * n)) bs) in
    let c : ℕ = number (drop (1 + (1 + 5 * n) + 2 * m) bs) in
    let size : length bs ≡ 1 + (1 + 5 * n) + 2 * m + 4 = grind (arith, e) in
    let kinds : flat_map kind_bytes ks ≡ take (5 * n) (drop 1 bs) = joined_chunks kind_in kind_bytes 5 kind_whole n (drop 1 bs) (omega (arith, length-drop 1 bs)) (bytes_drop 1 bs all) in
    let tempi : flat_map two ts ≡ take (2 * m) (drop (1 + (1 + 5 * n)) bs) =
    joined_chunks number two 2 two_whole m (drop (1 + (1 + 5 * n)) bs) (omega (arith, length-drop (1 + (1 + 5 * n)) bs)) (bytes_drop (1 + (1 + 5 * n)) bs all) in
    let change : four c ≡ drop (1 + (1 + 5 * n) + 2 * m) bs =
    four_whole _ (omega (arith, length-drop (1 + (1 + 5 * n) + 2 * m) bs)) (bytes_drop (1 + (1 + 5 * n) + 2 * m) bs all) in
    let back : flat_map two ts ++ four c ≡ drop (1 + (1 + 5 * n)) bs =
    (λ k. tempi k ++ (change ∙ sym (drop-drop (2 * m) (1 + (1 + 5 * n)) bs)) k) ∙ take-append-drop (2 * m) (drop (1 + (1 + 5 * n)) bs) in
    let middle : length ts ∷ (flat_map two ts ++ four c) ≡ drop (1 + 5 * n) bs =
    (λ k. length_chunks number 2 m (drop (1 + (1 + 5 * n)) bs) k ∷ back k) ∙ sym (headed bs (1 + 5 * n) (omega arith)) in
    let front : flat_map kind_bytes ks ++ (length ts ∷ (flat_map two ts ++ four c)) ≡ drop 1 bs =
    (λ k. kinds k ++ (middle ∙ sym (drop-drop (5 * n) 1 bs)) k) ∙ take-append-drop (5 * n) (drop 1 bs) in
    grind (arith, front, length_chunks kind_in 5 n (drop 1 bs), headed bs 0)
