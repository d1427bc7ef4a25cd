-- What is read is a good book, since every draft on the way is good so far.
use Rattle.std.proofs.Common.{◌≡◌, ℕ, suc, ◌<◌, ◌≤◌, Bool, true, false, ◌&&◌, List, [], ◌∷◌, ◌++◌, length, Some, None, Option, Ok, Err, Result, IfOk, cond, refl, arith, nat_le, nat_lt}
use Rattle.std.specs.Prelude.{codes}
use Rattle.std.specs.Str.{bytes_eq}
use Rattle.std.proofs.lemmas.Bool.Decides.{nat_tests}
use Rattle.std.proofs.lemmas.List.{length-append}
use Rattle.std.proofs.lemmas.Result.{IfOk-at_ok}
use Rattle.taps.specs.Readings.{Kind, Book}
use Rattle.taps.specs.Promise.{GoodBook, good_kind, good_kinds, good_tempi}
use Rattle.tokens.specs.Tokens.{lines_in, tokens_in}
use Rattle.bookfile.specs.Books.{Draft, add_change, add_kind, add_tempi, add_tokens, change_in, finish, is_comment, kind_in, listing, next, numbers_in, read_lines, take_line, take_tokens, timed, where_good, whole}
use Rattle.bookfile.specs.Laws.{BooksGood}
use Rattle.bookfile.specs.declared.fault.Fault.{Fault}
use Rattle.bookfile.specs.declared.fault.Reason.{Reason}

-- what has been read of a book is within its bounds
abbrev GoodDraft : Draft → Type 0
GoodDraft (listing ks) = (length ks ≤ 32) × (good_kinds ks ≡ true)
GoodDraft (timed ks ts) = (0 < length ks) × (length ks ≤ 32) × (good_kinds ks ≡ true) × (0 < length ts) × (length ts ≤ 64) × (good_tempi ts ≡ true)
GoodDraft (whole b) = GoodBook b

-- a choice by a test
either : (test : Bool) (r s : Result Draft Reason) → (test ≡ true → IfOk r GoodDraft) → IfOk s GoodDraft → IfOk (cond test r s) GoodDraft
either true r s f g = f refl
either false r s f g = g

kinds_more : (ks : List Kind) (k : Kind) → good_kinds ks ≡ true → good_kind k ≡ true → good_kinds (ks ++ k ∷ []) ≡ true
unfolding good_kinds
kinds_more [] k good is = grind (arith, nat_tests)
kinds_more (l ∷ ls) k good is = let rest : good_kinds ls ≡ true → good_kinds (ls ++ k ∷ []) ≡ true = λ h. kinds_more ls k h is in grind (arith, nat_tests)

kind_good : (ks : List Kind) (k : Option Kind) → GoodDraft (listing ks) → IfOk (add_kind ks k) GoodDraft
kind_good ks None good = tt
kind_good ks (Some k) good =
    either (nat_lt (length ks) 32) _ _
    (λ few. either (good_kind k) _ _ (λ is. let more : GoodDraft (listing (ks ++ k ∷ [])) = (grind (arith, nat_tests, few, length-append ks (k ∷ [])), kinds_more ks k good.1 is) in more) tt) tt

tempi_good : (ks : List Kind) (ts : Option (List ℕ)) → GoodDraft (listing ks) → IfOk (add_tempi ks (where_good ts)) GoodDraft
tempi_good [] ts good = tt
tempi_good (k ∷ ks) None good = tt
tempi_good (k ∷ ks) (Some ts) good = kept ((nat_lt 0 (length ts) && nat_le (length ts) 64) && good_tempi ts) refl
  where
    kept : (test : Bool) → (nat_lt 0 (length ts) && nat_le (length ts) 64) && good_tempi ts ≡ test → IfOk (add_tempi (k ∷ ks) (cond test (Some ts) None)) GoodDraft
    kept true is = (omega arith, good.0, good.1, grind (arith, nat_tests), grind (arith, nat_tests), grind (arith, nat_tests))
    kept false is = tt

change_good : (ks : List Kind) (ts : List ℕ) (c : Option ℕ) → GoodDraft (timed ks ts) → IfOk (add_change ks ts c) GoodDraft
change_good ks ts None good = tt
change_good ks ts (Some c) good =
    either (nat_lt c 65536) _ _ (λ cheap. (good.0, good.1, good.2, good.3, good.4, good.5, grind (arith, nat_tests, cheap))) tt

tokens_good : (d : Draft) (ws : List (List ℕ)) → GoodDraft d → IfOk (add_tokens d ws) GoodDraft
tokens_good d [] good = good
tokens_good d (w ∷ ws) good = either (is_comment w) _ _ (λ _. good) (taken d good)
  where
    taken : (d : Draft) → GoodDraft d → IfOk (take_tokens d w ws) GoodDraft
    taken (listing ks) good = either (bytes_eq w (codes "tempi")) _ _ (λ _. tempi_good ks (numbers_in ws) good) (kind_good ks (kind_in (w ∷ ws)) good)
    taken (timed ks ts) good = change_good ks ts (change_in (w ∷ ws)) good
    taken (whole b) good = tt

finish_good : (d : Draft) (n : ℕ) → GoodDraft d → IfOk (finish d n) GoodBook
finish_good (listing ks) n good = tt
finish_good (timed ks ts) n good = tt
finish_good (whole b) n good = good

next_good : (r : Result Draft Reason) (n : ℕ) (go : Draft → Result Book Fault) → IfOk r GoodDraft → ((d : Draft) → GoodDraft d → IfOk (go d) GoodBook) → IfOk (next r n go) GoodBook
next_good (Ok d) n go good on = on d good
next_good (Err e) n go good on = tt

lines_good : (ls : List (List ℕ)) (d : Draft) (n : ℕ) → GoodDraft d → IfOk (read_lines d n ls) GoodBook
lines_good [] d n good = finish_good d n good
lines_good (l ∷ ls) d n good =
    next_good (take_line d l) n (λ e. read_lines e (suc n) ls) (tokens_good d (tokens_in l) good) (λ e h. lines_good ls e (suc n) h)

none_good : good_kinds [] ≡ true
unfolding good_kinds
none_good = refl

pub books_good : BooksGood
books_good text b e = IfOk-at_ok GoodBook e (lines_good (lines_in text) (listing []) 0 (omega arith, none_good))
