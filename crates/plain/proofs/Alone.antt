-- What a gap costs alone at each tempo, and what the change costs besides. Assumes nothing.
use Rattle.std.proofs.Common.{◌≡◌, ℕ, suc, ◌+◌, ◌-◌, ◌*◌, ◌<◌, ◌≤◌, eqb, List, [], ◌∷◌, length, get_or, set, take, drop, Some, None, Option, refl, ap, ◌∙◌, arith}
use lib.Dec.{eqb-suc-zero}
use Rattle.std.specs.Option.{SomeIff}
use Rattle.std.proofs.lemmas.List.{take_rest}
use Rattle.least.specs.Minima.{capped, over, Among}
use Rattle.least.proofs.Capped.{capped_some, capped_within}
use Rattle.least.proofs.Minimal.{no_more_some, over_found, over_under}
use Rattle.taps.specs.Readings.{pick, Book, apart, tempo_at, before_of, costs, too_much}
use Rattle.statements.specs.Plain.{read}
use Rattle.fit.specs.Fit.{fit, least_fit, fits}
use Rattle.model.specs.declared.Step.{Step}
use Rattle.model.proofs.Numbers.{row_at}
use Rattle.plain.specs.Restricted.{kinds_at}

-- the place of the tempo before, if a state has one, tells the state
pub before_state : (before : Option ℕ) (s : ℕ) → SomeIff before (1 ≤ s) (s - 1) → before_of before ≡ s
before_state None s h = omega (arith, h)
before_state (Some t) s h = omega (arith, h)

-- a row is the entry of the first state, and behind it those of the tempi
pub one_set : (xs : List ℕ) (v : ℕ) → length xs ≡ 1 → set xs 0 v ≡ v ∷ []
one_set [] v h = absurd (omega arith)
one_set (x ∷ []) v h = refl
one_set (x ∷ (y ∷ ys)) v h = absurd (omega arith)

-- the entries behind the first
pub behind_first : (xs row : List ℕ) → row ≡ take (length xs - 1) (drop 1 xs) → (t : ℕ) → get_or row t 0 ≡ get_or xs (suc t) 0
behind_first [] row e t = ap (λ ys. get_or ys t 0) e
behind_first (x ∷ xs) row e t = ap (λ ys. get_or ys t 0) (e ∙ take_rest (x ∷ xs) 1)

module _ (b : Book) (g : Step) where
  -- what the gap costs alone at a tempo
  abbrev pub alone : ℕ → ℕ
  alone t = capped too_much (least_fit b g.kinds.bits g.gap t)

  pub alone_at : (row : List ℕ) → row ≡ fits b g.kinds.bits g.gap → (t : ℕ) → t < length b.tempi → get_or row t 0 ≡ alone t
  alone_at row e t h = ap (λ xs. get_or xs t 0) e ∙ row_at (length b.tempi) (least_fit b g.kinds.bits g.gap) t h

  -- what the change costs from a state to a tempo
  abbrev pub change : ℕ → ℕ → ℕ
  change s t = pick (eqb s 0) 0 (b.change * apart (tempo_at b (s - 1)) (tempo_at b t))

  pub change_after : (s t : ℕ) → change (suc s) t ≡ b.change * apart (tempo_at b s) (tempo_at b t)
  change_after s t = rw (eqb-suc-zero s) (let back : suc s - 1 ≡ s = omega arith in ap (λ n. b.change * apart (tempo_at b n) (tempo_at b t)) back)

  pub costs_split : (s k t : ℕ) → costs b s g.gap (read k t) ≡ fit b g.gap k t + change s t
  costs_split s k t = omega arith

  -- no kind that is allowed costs less, and below the cap one costs so much
  pub alone_low : (k t : ℕ) → Among k (kinds_at b g) → alone t ≤ fit b g.gap k t
  alone_low k t a =
      let f : ℕ → Option ℕ = λ j. Some (fit b g.gap j t) in
      capped_within too_much (over f (kinds_at b g)) (fit b g.gap k t) (no_more_some (over f (kinds_at b g)) (f k) (fit b g.gap k t) (over_under f k (kinds_at b g) a) refl)

  pub alone_found : (t : ℕ) → alone t < too_much → (k : ℕ) × Among k (kinds_at b g) × (fit b g.gap k t ≡ alone t)
  alone_found t h =
      let f = over_found (λ k. Some (fit b g.gap k t)) (kinds_at b g) (alone t) (capped_some too_much (least_fit b g.kinds.bits g.gap t) h) in
      (f.0, f.1, cc f.2)
