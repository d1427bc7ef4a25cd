-- A tempo past the bounds, which no book has. Assumes nothing.
use Rattle.std.proofs.Common.{◌≡◌, ℕ, ◌<◌, false, List, [], ◌∷◌, ◌++◌, Some, None, Option, refl, arith}
use Rattle.std.specs.Option.{option_map}
use Rattle.std.proofs.lemmas.Bool.Decides.{nat_tests}
use Rattle.taps.specs.Promise.{good_tempi}
use Rattle.bookfile.specs.Books.{in_front, where_good}

slow_first : (n : ℕ) (ys : List ℕ) → 4000 < n → good_tempi (n ∷ ys) ≡ false
unfolding good_tempi
slow_first n [] h = grind (arith, nat_tests)
slow_first n (u ∷ us) h =
    let rest : 4000 < u → good_tempi (u ∷ us) ≡ false = λ k. slow_first u us k in
    grind (arith, nat_tests)

slow_within : (xs : List ℕ) (n : ℕ) (ys : List ℕ) → 4000 < n → good_tempi (xs ++ n ∷ ys) ≡ false
unfolding good_tempi
slow_within [] n ys h = slow_first n ys h
slow_within (x ∷ []) n ys h = grind (arith, nat_tests, slow_first n ys h)
slow_within (x ∷ (u ∷ us)) n ys h = grind (arith, nat_tests, slow_within (u ∷ us) n ys h)

-- behind any tempi and before any words: no tempi
pub slow_refused : (xs : List ℕ) (n : ℕ) (ns : Option (List ℕ)) → 4000 < n → where_good (option_map (λ ys. xs ++ ys) (in_front (Some n) ns)) ≡ None
slow_refused xs n None h = refl
slow_refused xs n (Some ns) h = grind (arith, nat_tests, slow_within xs n ns h)
