-- Steps that are made of gaps, one after the other. Assumes nothing.
use Rattle.std.proofs.Common.{◌≡◌, ℕ, zero, suc, ◌+◌, ◌<◌, ◌≤◌, true, false, List, [], ◌∷◌, ◌++◌, length, take, get_or, set, sym, refl, ap, ◌∙◌, arith}
use Rattle.std.proofs.lemmas.Bool.Decides.{nat_tests}
use Rattle.std.proofs.lemmas.Grind.{take-set_at}
use Rattle.std.proofs.lemmas.List.{length-set, map-append, take_more}
use Rattle.std.proofs.lemmas.List.Elements.{All-set}
use Rattle.bitset.specs.Members.{member}
use Rattle.taps.specs.Promise.{small}
use Rattle.onsets.proofs.Sound.{small_more}
use Rattle.model.specs.declared.Step.{Step}
use Rattle.plain.specs.Restricted.{Free, gaps_of}

-- a gap that is too long
pub not_small : (gs : List ℕ) (i : ℕ) → i < length gs → 16777216 ≤ get_or gs i 0 → small gs ≡ false
unfolding small
not_small [] i inside long = absurd (omega arith)
not_small (g ∷ gs) zero inside long = grind (arith, nat_tests)
not_small (g ∷ gs) (suc i) inside long = grind (arith, nat_tests, not_small gs i (omega arith) long)

module _ (gs : List ℕ) where
  -- the first i steps have the first i gaps, which are short, and all steps are free
  abbrev pub Made : List Step → ℕ → Type 0
  Made all i = (gaps_of (take i all) ≡ take i gs) × (small (take i gs) ≡ true) × Free all × (length all ≡ 255)

  pub made_more : (all : List Step) (i : ℕ) (s : Step) → Made all i → i < length gs → i < 255 → s.gap ≡ get_or gs i 0 → ((k : ℕ) → k < 32 → member s.kinds.bits k ≡ true) → Made (set all i s) (i + 1)
  made_more all i s h inside room is free = (
    ap gaps_of (take-set_at all i (i + 1) s refl (omega (arith, h.3))) ∙ map-append (λ x. x.gap) (take i all) (s ∷ []) ∙ (λ j. h.0 j ++ (is j ∷ [])) ∙ sym (take_more gs i 0 inside),
    ap small (take_more gs i 0 inside) ∙ small_more (take i gs) (get_or gs i 0) h.1 (omega (arith, is, s.short)),
    All-set (λ x. (k : ℕ) → k < 32 → member x.kinds.bits k ≡ true) all i s free h.2,
    length-set all i s ∙ h.3,
  )
