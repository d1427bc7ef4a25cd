-- What words ask for has a limit of at most 256, and of just that where `--limit` is no option.
use Rattle.std.proofs.Common.{◌≡◌, ◌∙◌, ℕ, ◌≤◌, Bool, true, false, ◌&&◌, List, [], ◌∷◌, Some, None, Option, Ok, Err, Result, IfOk, IfSome, cond, refl, arith, nat_le}
use Rattle.std.proofs.lemmas.Bool.Decides.{nat_tests}
use Rattle.tokens.specs.Tokens.{number_in}
use Rattle.options.specs.Options.{Asked, BadOption, Draft, Request, asked_in, at_any, at_book, at_limit, at_most_all, finish, first_input, help, helping, is_book, is_help, is_limit, is_option, limit_in, next, read_words, run, start, take_first, take_limit, take_word}
use Rattle.options.specs.Fetched.{CanBeAsked, IsAsked}
use Rattle.options.specs.declared.Options.{Options}

abbrev IsLimit : Bool → ℕ → Type 0
IsLimit takes n = (n ≤ 256) × (takes ≡ false → n ≡ 256)

abbrev Within : Bool → Draft → Type 0
Within takes (at_any r) = IsLimit takes r.limit
Within takes (at_book r) = IsLimit takes r.limit
Within takes (at_limit r) = (takes ≡ true) × IsLimit takes r.limit
Within takes helping = Unit {0}

abbrev AskedWithin : Bool → Asked → Type 0
AskedWithin takes help = Unit {0}
AskedWithin takes (run r) = IsLimit takes r.limit

-- a choice by a test
either : (takes test : Bool) (r s : Result Draft BadOption) → (test ≡ true → IfOk r (Within takes)) → IfOk s (Within takes) → IfOk (cond test r s) (Within takes)
either takes true r s f g = f refl
either takes false r s f g = g

input_within : (takes : Bool) (before : Option (List ℕ)) (r : Request) (w : List ℕ) → IsLimit takes r.limit → IfOk (first_input before r w) (Within takes)
input_within takes None r w h = h
input_within takes (Some v) r w h = tt

second : (s t : Bool) → (s && t) ≡ true → t ≡ true
second true t h = h
second false t h = grind (arith, nat_tests)

first_within : (takes : Bool) (r : Request) (w : List ℕ) → IsLimit takes r.limit → IfOk (take_first takes r w) (Within takes)
first_within takes r w h =
    either takes (is_help w) _ _ (λ _. tt)
    (either takes (is_book w) _ _ (λ _. h)
    (either takes (is_limit w && takes) _ _ (λ e. (second (is_limit w) takes e, h))
    (either takes (is_option w) _ _ (λ _. tt) (input_within takes r.input r w h))))

at_most : (n : Option ℕ) → IfSome (at_most_all n) (λ m. m ≤ 256)
at_most None = tt
at_most (Some n) = small (nat_le n 256) refl
  where
    small : (test : Bool) → nat_le n 256 ≡ test → IfSome (cond test (Some n) None) (λ m. m ≤ 256)
    small true e = grind (arith, nat_tests)
    small false e = tt

limit_within : (takes : Bool) (n : Option ℕ) (r : Request) (w : List ℕ) → takes ≡ true → IfSome n (λ m. m ≤ 256) → IfOk (take_limit n r w) (Within takes)
limit_within takes None r w e h = tt
limit_within true (Some n) r w e h = (h, λ no. grind (arith, nat_tests))
limit_within false (Some n) r w e h = grind (arith, nat_tests)

word_within : (takes : Bool) (d : Draft) (w : List ℕ) → Within takes d → IfOk (take_word takes d w) (Within takes)
word_within takes (at_any r) w h = first_within takes r w h
word_within takes (at_book r) w h = h
word_within takes (at_limit r) w h = limit_within takes (limit_in w) r w h.0 (at_most (number_in w))
word_within takes helping w h = tt

finish_within : (takes : Bool) (d : Draft) → Within takes d → IfOk (finish d) (AskedWithin takes)
finish_within takes (at_any r) h = h
finish_within takes (at_book r) h = tt
finish_within takes (at_limit r) h = tt
finish_within takes helping h = tt

next_within : (takes : Bool) (r : Result Draft BadOption) (go : Draft → Result Asked BadOption) → IfOk r (Within takes) → ((d : Draft) → Within takes d → IfOk (go d) (AskedWithin takes)) → IfOk (next r go) (AskedWithin takes)
next_within takes (Ok d) go h on = on d h
next_within takes (Err e) go h on = tt

words_within : (takes : Bool) (ws : List (List ℕ)) (d : Draft) → Within takes d → IfOk (read_words takes d ws) (AskedWithin takes)
words_within takes [] d h = finish_within takes d h
words_within takes (w ∷ ws) d h = next_within takes (take_word takes d w) (λ e. read_words takes e ws) (word_within takes d w h) (λ e k. words_within takes ws e k)

-- what the program is given, where that is what was asked for
given_within : (takes : Bool) (o : Option Options) (r : Result Asked BadOption) → IsAsked o r → IfOk r (AskedWithin takes) → IfSome o (λ options. IsLimit takes options.limit)
given_within takes None r is h = tt
given_within takes (Some o) (Ok help) is h = absurd is
given_within takes (Some o) (Ok (run r)) is h = (omega (arith, is.limit, h.0), λ e. is.limit ∙ h.1 e)
given_within takes (Some o) (Err e) is h = absurd is

-- the limit that words ask for
words_limit : (takes : Bool) (words : List (List ℕ)) (o : Option Options) → IsAsked o (asked_in takes words) → IfSome o (λ options. IsLimit takes options.limit)
words_limit takes words o is = given_within takes o (asked_in takes words) is (words_within takes words start (omega arith, λ _. refl))

pub limit_most : {E : Type 0} (takes : Bool) (words : List (List ℕ)) (r : Result (Option Options) E) → IfOk r (λ o. IsAsked o (asked_in takes words)) → IfOk r (λ o. IfSome o (λ options. options.limit ≤ 256))
limit_most takes words (Ok None) is = tt
limit_most takes words (Ok (Some o)) is = (words_limit takes words (Some o) is).0
limit_most takes words (Err e) is = tt

pub limit_fixed : {E : Type 0} (takes : Bool) (words : List (List ℕ)) (r : Result (Option Options) E) → IfOk r (λ o. IsAsked o (asked_in takes words)) → takes ≡ false → IfOk r (λ o. IfSome o (λ options. options.limit ≡ 256))
limit_fixed takes words (Ok None) is e = tt
limit_fixed takes words (Ok (Some o)) is e = (words_limit takes words (Some o) is).1 e
limit_fixed takes words (Err err) is e = tt

pub asked_given : {E : Type 0} (takes : Bool) (words : List (List ℕ)) (r : Result (Option Options) E) → IfOk r (λ o. IsAsked o (asked_in takes words)) → IfOk r (CanBeAsked takes)
asked_given takes words (Ok o) is = (words, is)
asked_given takes words (Err e) is = tt
