-- A reader that can imitate another costs at most so much more; with fewer choices nothing costs less. Assumes nothing.
use Rattle.std.proofs.Common.{◌≡◌, ℕ, ◌+◌, ◌≤◌, Bool, true, List, [], ◌∷◌, sym, refl, arith}
use Rattle.std.proofs.lemmas.Bool.{and_parts, both_ways}
use Rattle.least.specs.Minima.{NoMore, plus, Among}
use Rattle.least.specs.Readers.{Reader, Reads, total, suffix, least}
use Rattle.least.specs.Laws.{Fewer, fitting, extras, Imitates}
use Rattle.least.proofs.Minimal.{no_more_from, no_more_plus, plus_some}
use Rattle.least.proofs.Best.{none_better, none_better_whole, told_best, reading_best}

abbrev pub Fitting : {G H : Type 0} → (G → H → Type 0) → List G → List H → Type 0
Fitting Fit [] [] = Unit {0}
Fitting Fit [] (h ∷ hs) = ⊥
Fitting Fit (g ∷ gs) [] = ⊥
Fitting Fit (g ∷ gs) (h ∷ hs) = Fit g h × Fitting Fit gs hs

module _ {G S C H T D : Type 0} (r : Reader G S C) (q : Reader H T D) (Beside : S → T → Type 0) (Fit : G → H → Type 0) (extra : G → H → ℕ)
    (follows : (s : S) (t : T) (g : G) (h : H) (c : C) → Beside s t → Fit g h → Among c (r.choices s g) →
    (d : D) × Among d (q.choices t h) × Beside (r.next s g c) (q.next t h d) × (q.cost t h d ≤ r.cost s g c + extra g h)) where
  -- what r does from s, q can do from t
  follow : (s : S) (t : T) (gs : List G) (hs : List H) (cs : List C) → Beside s t → Fitting Fit gs hs → Reads r s gs cs →
      (ds : List D) × Reads q t hs ds × (total q t hs ds ≤ total r s gs cs + extras extra gs hs)
  follow s t [] [] cs b f i = ([], tt, omega arith)
  follow s t [] (h ∷ hs) cs b f i = absurd f
  follow s t (g ∷ gs) [] cs b f i = absurd f
  follow s t (g ∷ gs) (h ∷ hs) [] b f i = absurd i
  follow s t (g ∷ gs) (h ∷ hs) (c ∷ cs) b f i =
      let one = follows s t g h c b f.0 i.0 in
      let rest = follow (r.next s g c) (q.next t h one.0) gs hs cs one.2 f.1 i.1 in
      (one.0 ∷ rest.0, (one.1, rest.1), omega (arith, one.3, rest.2))

  pub imitates_from : (s : S) (t : T) (gs : List G) (hs : List H) → Beside s t → Fitting Fit gs hs → NoMore (suffix q t hs) (plus (extras extra gs hs) (suffix r s gs))
  imitates_from s t gs hs b f =
      no_more_from _ (plus (extras extra gs hs) (suffix r s gs))
      (λ v e.
      let u = plus_some (extras extra gs hs) (suffix r s gs) v e in
      let best = told_best r s gs u.0 u.1 in
      let there = follow s t gs hs best.0 b f best.1.is in
      let w = none_better q t hs there.0 there.1 in
      (w.0, w.1, omega (arith, w.2, there.2, best.1.costs, u.2)))

  imitates : (late : ℕ) → ((s : S) → Among s r.starts → (t : T) × Among t q.starts × Beside s t × (q.entry t ≤ r.entry s + late)) →
      (gs : List G) (hs : List H) → Fitting Fit gs hs → NoMore (least q hs) (plus (late + extras extra gs hs) (least r gs))
  imitates late begins gs hs f =
      no_more_from _ (plus (late + extras extra gs hs) (least r gs))
      (λ v e.
      let u = plus_some (late + extras extra gs hs) (least r gs) v e in
      let best = reading_best r gs u.0 u.1 in
      let start = begins best.0.0 best.1.is.0 in
      let there = follow best.0.0 start.0 gs hs best.0.1 start.2 f best.1.is.1 in
      let w = none_better_whole q hs (start.0, there.0) (start.1, there.1) in
      (w.0, w.1, omega (arith, w.2, there.2, start.3, best.1.costs, u.2)))

fitting_is : {G H : Type 0} (fit : G → H → Bool) (gs : List G) (hs : List H) → fitting fit gs hs ≡ true → Fitting (λ g h. fit g h ≡ true) gs hs
fitting_is fit [] [] e = tt
fitting_is fit [] (h ∷ hs) e = absurd (both_ways _ refl e)
fitting_is fit (g ∷ gs) [] e = absurd (both_ways _ refl e)
fitting_is fit (g ∷ gs) (h ∷ hs) e = let p = and_parts (fit g h) (fitting fit gs hs) e in (p.0, fitting_is fit gs hs p.1)

pub imitates_stands : (G S C H T D : Type 0) → Imitates G S C H T D
unfolding Imitates
imitates_stands G S C H T D r q beside fit extra late begins follows gs hs e =
    imitates r q (λ s t. beside s t ≡ true) (λ g h. fit g h ≡ true) extra follows late begins gs hs (fitting_is fit gs hs e)

-- steps beside themselves
pub fitting_same : {G : Type 0} (gs : List G) → Fitting (λ (g h : G). g ≡ h) gs gs
fitting_same [] = tt
fitting_same (g ∷ gs) = (refl, fitting_same gs)

pub no_extras : {G H : Type 0} (gs : List G) (hs : List H) → extras (λ (_ : G) (_ : H). 0) gs hs ≡ 0
no_extras [] hs = refl
no_extras (g ∷ gs) [] = refl
no_extras (g ∷ gs) (h ∷ hs) = omega (arith, no_extras gs hs)

pub fewer_stands : (G S C : Type 0) → Fewer G S C
unfolding Fewer
fewer_stands G S C r q starts choices gs =
    no_more_plus (0 + extras (λ (_ _ : G). 0) gs gs) (least r gs) (least q gs) (omega (arith, no_extras gs gs))
    (imitates q r (λ s t. s ≡ t) (λ g h. g ≡ h) (λ _ _. 0)
    (λ s t g h c b f i.
    let there = choices s g c i in
    rw (sym b, sym f) (c, there.0, sym there.2, omega (arith, there.1)))
    0 (λ s i. let there = starts s i in (s, there.0, refl, omega (arith, there.1))) gs gs (fitting_same gs))
