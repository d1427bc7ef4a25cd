-- The words in front of a desk's memory: what is written there is read again. Assumes nothing.
use Rattle.std.proofs.Common.{◌≡◌, ℕ, zero, suc, ◌+◌, ◌*◌, ◌-◌, ◌<◌, ◌≤◌, true, false, ◌&&◌, nat_le, slice_index, None, List, [], ◌∷◌, ◌++◌, length, take, drop, replicate, map, set, Some, Option, refl, sym, ap, ◌∙◌, subst, arith}
use Rattle.std.proofs.lemmas.Bool.{le-leb}
use Rattle.std.proofs.lemmas.Bool.Decides.{nat_tests}
use Rattle.std.proofs.lemmas.List.{get_or-take, length-replicate, map-id, take_at, length-append, length-take-le, take-take, drop-take}
use borrow.Rule.Slice.PartMut.{put_mid}
use Rattle.std.specs.List.{flat_map, list_all}
use Rattle.std.specs.Simd.{first_chunks}
use Rattle.taps.specs.Readings.{pick, Book}
use Rattle.taps.specs.Promise.{GoodBook}
use Rattle.taps.proofs.Picks.{picked}
use Rattle.octets.specs.Bytes.{Bytes, eight, chunks, number, written}
use Rattle.octets.proofs.Chunks.{length_chunks, joined_chunks, bytes_append, bytes_drop}
use Rattle.octets.proofs.Cut.{pieces_found}
use Rattle.octets.proofs.Found.{found_is}
use Rattle.octets.proofs.Front.{Front, front_none, front_one, front_part, all_written, written_size}
use Rattle.octets.proofs.Numbers.{eight_whole}
use Rattle.books.specs.Books.{book_bytes, book_in}
use Rattle.books.proofs.Returns.{books_return}
use Rattle.books.proofs.Written.{size_book, bytes_book}
use Rattle.session.specs.Layout.{head_of, book_words, book_held, opened_with, setup_in}

pub zero_at : (n i : ℕ) → slice_index (replicate n 0) i ≡ 0
zero_at zero i = refl
zero_at (suc n) zero = refl
zero_at (suc n) (suc i) = zero_at n i

-- the words that hold bytes, with zeros behind, are read as these
words_back : (n size : ℕ) (bs : List ℕ) → size ≡ 8 * n → Bytes bs → length bs ≤ size → take (length bs) (flat_map eight (chunks number 8 n (written bs (replicate size 0)))) ≡ bs
words_back n size bs same all fits =
    let blank : List ℕ = replicate size 0 in
    let padded : List ℕ = bs ++ drop (length bs) blank in
    let many : length blank ≡ size = length-replicate size 0 in
    let fills : length bs ≤ length blank = omega (arith, fits, many) in
    let is : written bs blank ≡ padded = grind (arith, nat_tests, fills) in
    let bytes = bytes_append bs (drop (length bs) blank) all (bytes_drop (length bs) blank (λ i. omega (arith, zero_at size i))) in
    let long : 8 * n ≤ length padded = omega (arith, ap length is, written_size bs blank, many, same) in
    ap (λ xs. take (length bs) (flat_map eight (chunks number 8 n xs))) is ∙ ap (take (length bs)) (joined_chunks number eight 8 eight_whole n padded long bytes)
    ∙ take-take (length bs) (8 * n) padded (omega (arith, fits, same)) ∙ take_at bs (drop (length bs) blank) (length bs) refl

size_words : (bs : List ℕ) → length (book_words bs) ≡ 37
unfolding book_words
size_words bs = length_chunks number 8 37 (written bs (replicate 296 0))

book_back : (b : Book) → GoodBook b → take (length (book_bytes b)) (flat_map eight (book_words (book_bytes b))) ≡ book_bytes b
unfolding book_words
book_back b good = words_back 37 296 (book_bytes b) refl (bytes_book b good) (omega (arith, size_book b good))

-- bytes that are cut into pieces, each read as a word
pub words_cut : (n : ℕ) (bs words : List ℕ) (pieces : List (List ℕ)) → pieces ≡ first_chunks 8 n bs →
    Some words ≡ pick (nat_le (length pieces) n && list_all (λ _. true) (map number pieces)) (Some (map number pieces)) None → words ≡ chunks number 8 n bs
words_cut n bs words pieces cut made =
    found_is _ words (chunks number 8 n bs) (pieces_found number (λ _. true) (λ _. true) refl (λ _ _. refl) 8 n n bs pieces (Some words) cut made)

pub size_head : (b : Book) (most : ℕ) → length (head_of b most) ≡ 39
unfolding head_of
size_head b most = ap suc (ap suc (size_words (book_bytes b)))

-- the limit, the book's size and its words, each written behind the others
pub head_written : (b : Book) (most n : ℕ) (old bytes words : List ℕ) → n ≡ length (book_bytes b) → bytes ≡ written (book_bytes b) (replicate 296 0) → words ≡ chunks number 8 37 bytes → 39 ≤ length old →
    put_mid 2 37 (set (set old 0 most) 1 n) words ≡ written (head_of b most) old
unfolding book_words head_of
head_written b most n old bytes words many all cut fits =
    let is : words ≡ book_words (book_bytes b) = cut ∙ ap (chunks number 8 37) all in
    let size : length words ≡ 37 = ap length is ∙ size_words (book_bytes b) in
    let f1 = front_one old old [] 0 most (front_none old) refl (omega (arith, fits)) in
    let f2 = front_one old _ (most ∷ []) 1 n f1 refl (omega (arith, fits)) in
    let f3 = front_part old _ (most ∷ (n ∷ [])) words 2 37 f2 refl size in
    let f4 = subst (Front old (put_mid 2 37 (set (set old 0 most) 1 n) words)) (λ j. most ∷ (many j ∷ is j)) f3 in
    (all_written old _ (head_of b most) 39 f4 (size_head b most) fits).1

-- what was written is what is read
pub head_read : (b : Book) (most : ℕ) (rest : List ℕ) → GoodBook b → most ≤ 256 → setup_in (head_of b most ++ rest) ≡ Some (record { book = b; limit = most })
unfolding head_of
head_read b most rest good few =
    let words : List ℕ = book_words (book_bytes b) in
    let cut : take 37 (words ++ rest) ≡ words = take_at words rest 37 (size_words (book_bytes b)) in
    let bytes : take (length (book_bytes b)) (flat_map eight (take 37 (words ++ rest))) ≡ book_bytes b = ap (λ ws. take (length (book_bytes b)) (flat_map eight ws)) cut ∙ book_back b good in
    let is : book_in (take (length (book_bytes b)) (flat_map eight (take 37 (words ++ rest)))) ≡ Some b = ap book_in bytes ∙ books_return b good in
    let held : book_held (head_of b most ++ rest) ≡ Some b = picked _ _ _ (le-leb (length (book_bytes b)) 296 (omega (arith, size_book b good))) ∙ is in
    let long : 39 ≤ length (head_of b most ++ rest) = omega (arith, size_words (book_bytes b), length-append words rest) in
    picked _ _ _ (le-leb 39 (length (head_of b most ++ rest)) long) ∙ ap (λ o. opened_with o most) held ∙ picked _ _ _ (le-leb most 256 few)

-- no word behind the first 39 is read
take_front : (i k n : ℕ) (words : List ℕ) → i + k ≤ n → take k (drop i (take n words)) ≡ take k (drop i words)
take_front i k n words far =
    let parts : n ≡ i + (n - i) = omega (arith, far) in
    ap (λ m. take k (drop i (take m words))) parts ∙ ap (take k) (drop-take i (n - i) words) ∙ take-take k (n - i) (drop i words) (omega (arith, far))

pub head_front : (n : ℕ) (words : List ℕ) → 39 ≤ n → n ≤ length words → setup_in (take n words) ≡ setup_in words
head_front n words far fits =
    let long : 39 ≤ length (take n words) = omega (arith, length-take-le n words fits) in
    let most : slice_index (take n words) 0 ≡ slice_index words 0 = get_or-take n words 0 0 (omega (arith, far)) in
    let size : slice_index (take n words) 1 ≡ slice_index words 1 = get_or-take n words 1 0 (omega (arith, far)) in
    let bytes : take 37 (drop 2 (take n words)) ≡ take 37 (drop 2 words) = take_front 2 37 n words far in
    picked _ _ _ (le-leb 39 (length (take n words)) long)
    ∙ (λ j. opened_with (pick (nat_le (size j) 296) (book_in (take (size j) (flat_map eight (bytes j)))) None) (most j))
    ∙ sym (picked _ _ _ (le-leb 39 (length words) (omega (arith, far, fits))))

-- words with too few of them hold nothing
pub too_few : (words : List ℕ) → length words < 39 → None ≡ setup_in words
too_few words few =
    let test : nat_le 39 (length words) ≡ false = grind (arith, nat_tests, few) in
    sym (ap (λ t. pick t (opened_with (book_held words) (slice_index words 0)) None) test)

-- the first words, and the bytes of those behind the first two
module _ (words head out : List ℕ) (long : 39 ≤ length words) (is : head ≡ take 39 words) (bytes : out ≡ flat_map eight (map (λ x. x) (take (length head - 2) (drop 2 head)))) where
  bytes_are : flat_map eight (take 37 (drop 2 words)) ≡ out
  bytes_are =
      let many : length head - 2 ≡ 37 = omega (arith, ap length is, length-take-le 39 words long) in
      let same : take (length head - 2) (drop 2 head) ≡ take 37 (drop 2 words) = (λ j. take (many j) (drop 2 (is j))) ∙ take_front 2 37 39 words (omega arith) in
      sym (bytes ∙ ap (flat_map eight) (map-id _ ∙ same))

  first : (i : ℕ) → i < 39 → slice_index words i ≡ slice_index head i
  first i inside = sym (ap (λ ws. slice_index ws i) is ∙ get_or-take 39 words i 0 inside)

  held_is : setup_in words ≡ opened_with (pick (nat_le (slice_index head 1) 296) (book_in (take (slice_index head 1) out)) None) (slice_index head 0)
  held_is =
      let most = first 0 (omega arith) in
      let size = first 1 (omega arith) in
      picked _ _ _ (le-leb 39 (length words) long) ∙ (λ j. opened_with (pick (nat_le (size j) 296) (book_in (take (size j) (bytes_are j))) None) (most j))

  -- a book's size that is too large, bytes that are no book, and a book
  module _ (size : length out ≡ 296) where
    pub too_large : length out < slice_index head 1 → None ≡ setup_in words
    too_large more =
        let test : nat_le (slice_index head 1) 296 ≡ false = grind (arith, nat_tests, more, size) in
        sym (held_is ∙ ap (λ t. opened_with (pick t (book_in (take (slice_index head 1) out)) None) (slice_index head 0)) test)

    pub with_book : (book : List ℕ) (o : Option Book) → slice_index head 1 ≤ length out → book ≡ take (slice_index head 1) out → o ≡ book_in book → opened_with o (slice_index head 0) ≡ setup_in words
    with_book book o fits cut read =
        let test = picked _ (book_in (take (slice_index head 1) out)) None (le-leb (slice_index head 1) 296 (omega (arith, fits, size))) in
        sym (held_is ∙ ap (λ p. opened_with p (slice_index head 0)) (test ∙ sym (read ∙ ap book_in cut)))
