-- A book, written part by part.
use Rattle.std.proofs.Common.{◌≡◌, ℕ, zero, suc, ◌+◌, ◌-◌, ◌*◌, ◌<◌, ◌≤◌, true, List, [], ◌∷◌, ◌++◌, length, set, sym, refl, ap, ◌∙◌, subst, arith}
use borrow.Rule.Slice.PartMut.{put_mid}
use Rattle.std.specs.List.{flat_map}
use Rattle.std.proofs.lemmas.Bool.Decides.{nat_tests}
use Rattle.std.proofs.lemmas.List.{append_assoc, length-append}
use Rattle.taps.specs.Readings.{Kind, Book}
use Rattle.taps.specs.Promise.{GoodBook, good_kinds}
use Rattle.octets.specs.Bytes.{Bytes, two, four, written}
use Rattle.octets.proofs.Chunks.{length_joined}
use Rattle.octets.proofs.Front.{Front, front_none, front_one, front_part, all_written}
use Rattle.books.specs.Books.{kind_bytes, book_bytes}

pub length_book : (b : Book) → length (book_bytes b) ≡ 1 + (1 + 5 * length b.kinds) + 2 * length b.tempi + 4
length_book b =
    omega (
      arith,
      length_joined kind_bytes 5 (λ _. refl) b.kinds,
      length_joined two 2 (λ _. refl) b.tempi,
      length-append (flat_map kind_bytes b.kinds) (length b.tempi ∷ (flat_map two b.tempi ++ four b.change)),
      length-append (flat_map two b.tempi) (four b.change),
    )

-- a good book has 294 bytes at most
pub size_book : (b : Book) → GoodBook b → length (book_bytes b) ≤ 294
size_book b good = omega (arith, length_book b, good.1, good.4)

bytes_four : (n : ℕ) (bs : List ℕ) → Bytes bs → Bytes (four n ++ bs)
bytes_four n bs all zero = omega arith
bytes_four n bs all (suc zero) = omega arith
bytes_four n bs all (suc (suc zero)) = omega arith
bytes_four n bs all (suc (suc (suc zero))) = omega arith
bytes_four n bs all (suc (suc (suc (suc i)))) = all i

bytes_kinds : (ks : List Kind) (bs : List ℕ) → good_kinds ks ≡ true → Bytes bs → Bytes (flat_map kind_bytes ks ++ bs)
unfolding good_kinds
bytes_kinds [] bs good all i = all i
bytes_kinds (k ∷ ks) bs good all zero = grind (arith, nat_tests)
bytes_kinds (k ∷ ks) bs good all (suc i) = bytes_four k.weight (flat_map kind_bytes ks ++ bs) (bytes_kinds ks bs (grind arith) all) i

bytes_tempi : (ts bs : List ℕ) → Bytes bs → Bytes (flat_map two ts ++ bs)
bytes_tempi [] bs all i = all i
bytes_tempi (t ∷ ts) bs all zero = omega arith
bytes_tempi (t ∷ ts) bs all (suc zero) = omega arith
bytes_tempi (t ∷ ts) bs all (suc (suc i)) = bytes_tempi ts bs all i

bytes_counted : (n : ℕ) (bs : List ℕ) → n < 256 → Bytes bs → Bytes (n ∷ bs)
bytes_counted n bs small all zero = small
bytes_counted n bs small all (suc i) = all i

-- and all of them are
pub bytes_book : (b : Book) → GoodBook b → Bytes (book_bytes b)
bytes_book b good =
    let change : Bytes (four b.change) = bytes_four b.change [] (λ i. omega arith) in
    let tempi = bytes_counted (length b.tempi) _ (omega (arith, good.4)) (bytes_tempi b.tempi (four b.change) change) in
    bytes_counted (length b.kinds) _ (omega (arith, good.1)) (bytes_kinds b.kinds _ good.2 tempi)

-- a count and the kinds, a count and the tempi, and the change
pub book_written : (old : List ℕ) (b : Book) (n m : ℕ) (kinds tempi change : List ℕ) → length b.kinds ≡ n → length b.tempi ≡ m →
    kinds ≡ flat_map kind_bytes b.kinds → tempi ≡ flat_map two b.tempi → change ≡ four b.change → 1 + (1 + 5 * n) + 2 * m + 4 ≤ length old →
    put_mid (1 + (1 + 5 * n) + 2 * m) (1 + (1 + 5 * n) + 2 * m + 4 - (1 + (1 + 5 * n) + 2 * m))
    (put_mid (1 + (1 + 5 * n)) (1 + (1 + 5 * n) + 2 * m - (1 + (1 + 5 * n))) (set (put_mid 1 (1 + 5 * n - 1) (set old 0 n) kinds) (1 + 5 * n) m) tempi) change
    ≡ written (book_bytes b) old
book_written old b n m kinds tempi change many few ks ts c fits =
    let size : length (book_bytes b) ≡ 1 + (1 + 5 * n) + 2 * m + 4 = omega (arith, length_book b) in
    let k-size : length kinds ≡ 5 * n = ap length ks ∙ length_joined kind_bytes 5 (λ _. refl) b.kinds ∙ ap (λ i. 5 * i) many in
    let t-size : length tempi ≡ 2 * m = ap length ts ∙ length_joined two 2 (λ _. refl) b.tempi ∙ ap (λ i. 2 * i) few in
    let f1 = front_one old old [] 0 n (front_none old) refl (omega arith) in
    let f2 = front_part old _ (n ∷ []) kinds 1 (1 + 5 * n - 1) f1 refl (omega arith) in
    let f3 = front_one old _ (n ∷ kinds) (1 + 5 * n) m f2 (omega arith) (omega arith) in
    let front : List ℕ = (n ∷ kinds) ++ m ∷ [] in
    let f-size : length front ≡ 1 + (1 + 5 * n) = omega (arith, length-append (n ∷ kinds) (m ∷ [])) in
    let f4 = front_part old _ front tempi (1 + (1 + 5 * n)) (1 + (1 + 5 * n) + 2 * m - (1 + (1 + 5 * n))) f3 f-size (omega arith) in
    let f5 = front_part old _ (front ++ tempi) change (1 + (1 + 5 * n) + 2 * m) (1 + (1 + 5 * n) + 2 * m + 4 - (1 + (1 + 5 * n) + 2 * m)) f4 (omega (arith, length-append front tempi)) (ap length c ∙ omega arith) in
    let bytes : (front ++ tempi) ++ change ≡ book_bytes b =
    append_assoc front tempi change ∙ append_assoc (n ∷ kinds) (m ∷ []) (tempi ++ change) ∙ (λ i. sym many i ∷ (ks i ++ sym few i ∷ (ts i ++ c i))) in
    (all_written old _ (book_bytes b) (1 + (1 + 5 * n) + 2 * m + 4) (subst (Front old _) bytes f5) size fits).1
