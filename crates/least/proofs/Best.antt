-- The reading told is the first best one, and there is only one such. Assumes nothing.
use Rattle.std.proofs.Common.{◌≡◌, ℕ, ◌+◌, ◌*◌, ◌≤◌, List, [], ◌∷◌, length, Some, None, Option, sym, refl, ◌∙◌, subst, inl, inr, mul-suc, arith}
use Rattle.std.proofs.lemmas.Option.{none-some}
use Rattle.least.specs.Minima.{Among}
use Rattle.least.specs.Readers.{Reader, Reads, total, suffix, told, ComesFirst, Whole, whole_cost, WholeFirst, least, reading}
use Rattle.least.specs.Laws.{ToldFrom, Told, Only}
use Rattle.least.proofs.Minimal.{Within, within_more, sooner_both}
use Rattle.least.proofs.Choice.{chosen_within, ToldBest, told_cases, choice_best, choice_none}

module _ {G S C : Type 0} (r : Reader G S C) where
  -- the least after a choice, and after a start
  abbrev pub after : S → G → List G → C → Option ℕ
  after s g gs c = suffix r (r.next s g c) gs

  abbrev pub from : List G → S → Option ℕ
  from gs s = suffix r s gs

  pub none_better : (s : S) (gs : List G) (cs : List C) → Reads r s gs cs → Within (suffix r s gs) (total r s gs cs)
  unfolding suffix
  none_better s [] [] i = (0, refl, omega arith)
  none_better s [] (c ∷ cs) i = absurd i
  none_better s (g ∷ gs) [] i = absurd i
  none_better s (g ∷ gs) (c ∷ cs) i =
      chosen_within (r.cost s g) (after s g gs) (r.choices s g) c (total r (r.next s g c) gs cs) i.0 (none_better (r.next s g c) gs cs i.1)

  pub none_better_whole : (gs : List G) (w : S × List C) → Whole r gs w → Within (least r gs) (whole_cost r gs w)
  none_better_whole gs w i = chosen_within r.entry (from gs) r.starts w.0 (total r w.0 gs w.1) i.0 (none_better w.0 gs w.1 i.1)

  -- where each step has a choice that costs at most so much, whatever the state, all of them cost at most so much each
  pub bounded : (per : ℕ) (Small : G → Type 0) → ((s : S) (g : G) → Small g → (c : C) × Among c (r.choices s g) × (r.cost s g c ≤ per)) →
      (s : S) (gs : List G) → ((g : G) → Among g gs → Small g) → Within (suffix r s gs) (per * length gs)
  unfolding suffix
  bounded per Small cheap s [] small = (0, refl, omega arith)
  bounded per Small cheap s (g ∷ gs) small =
      let c = cheap s g (small g (inl refl)) in
      let w = chosen_within (r.cost s g) (after s g gs) (r.choices s g) c.0 (per * length gs) c.1 (bounded per Small cheap (r.next s g c.0) gs (λ h a. small h (inr a))) in
      within_more _ (r.cost s g c.0 + per * length gs) (per * length (g ∷ gs)) w (omega (arith, c.2, mul-suc per (length gs)))

  -- the reading told from a state on, and the one of all
  pub told_best : (s : S) (gs : List G) (m : ℕ) → suffix r s gs ≡ Some m → (cs : List C) × ToldBest (told r s gs) (Reads r s gs) (total r s gs) (ComesFirst r s gs) m cs
  unfolding suffix told
  told_best s [] m e = ([], record { told = refl; is = tt; costs = cc; first = λ ds i t. tt })
  told_best s (g ∷ gs) m e =
      let b =
      choice_best ◌∷◌ (r.cost s g) (after s g gs) (λ c. told r (r.next s g c) gs) (λ c. Reads r (r.next s g c) gs) (λ c. total r (r.next s g c) gs) (λ c. ComesFirst r (r.next s g c) gs)
      (λ c. none_better (r.next s g c) gs) (λ c n f. told_best (r.next s g c) gs n f) (r.choices s g) m e in (
        b.0 ∷ b.1,
        record {
          told = b.2.told;
          is = (b.2.among, b.2.is);
          costs = b.2.costs;
          first = λ ds. elim ds as (λ xs. Reads r s (g ∷ gs) xs → total r s (g ∷ gs) xs ≡ m → ComesFirst r s (g ∷ gs) (b.0 ∷ b.1) xs) [
            | [] ↦ λ i t. tt
            | d ∷ es ↦ λ i t. b.2.first d es i.0 i.1 t
          ];
        },
      )

  pub reading_best : (gs : List G) (m : ℕ) → least r gs ≡ Some m → (w : S × List C) × ToldBest (reading r gs) (Whole r gs) (whole_cost r gs) (WholeFirst r gs) m w
  reading_best gs m e =
      let b =
      choice_best (λ s cs. (s, cs)) r.entry (from gs) (λ s. told r s gs) (λ s. Reads r s gs) (λ s. total r s gs) (λ s. ComesFirst r s gs) (λ s. none_better s gs) (λ s. told_best s gs) r.starts m e in
      ((b.0, b.1), record { told = b.2.told; is = (b.2.among, b.2.is); costs = b.2.costs; first = λ v i f. b.2.first v.0 v.1 i.0 i.1 f })

  pub told_none : (s : S) (gs : List G) → suffix r s gs ≡ None → told r s gs ≡ None
  unfolding suffix told
  told_none s [] e = absurd (none-some 0 (sym e))
  told_none s (g ∷ gs) e = choice_none ◌∷◌ (r.cost s g) (after s g gs) (λ c. told r (r.next s g c) gs) (r.choices s g) e

  pub reading_none : (gs : List G) → least r gs ≡ None → reading r gs ≡ None
  reading_none gs e = choice_none (λ s cs. (s, cs)) r.entry (from gs) (λ s. told r s gs) r.starts e

  -- of two readings that come before each other there is one
  pub comes_both : (s : S) (gs : List G) (cs ds : List C) → Reads r s gs cs → Reads r s gs ds → ComesFirst r s gs cs ds → ComesFirst r s gs ds cs → cs ≡ ds
  comes_both s [] [] [] i j p q = refl
  comes_both s [] [] (d ∷ ds) i j p q = absurd j
  comes_both s [] (c ∷ cs) ds i j p q = absurd i
  comes_both s (g ∷ gs) [] ds i j p q = absurd i
  comes_both s (g ∷ gs) (c ∷ cs) [] i j p q = absurd j
  comes_both s (g ∷ gs) (c ∷ cs) (d ∷ ds) i j p q =
      let same : c ≡ d = sooner_both c d (r.choices s g) p.0 q.0 in
      let rest : cs ≡ ds =
      comes_both (r.next s g c) gs cs ds i.1 (subst (λ x. Reads r (r.next s g x) gs ds) (sym same) j.1) (p.1 same)
      (subst (λ x. ComesFirst r (r.next s g x) gs ds cs) (sym same) (q.1 (sym same))) in
      cc

pub told_from_stands : (G S C : Type 0) → ToldFrom G S C
unfolding ToldFrom
told_from_stands G S C r s gs = told_cases (suffix r s gs) (told r s gs) (Reads r s gs) (total r s gs) (ComesFirst r s gs) (none_better r s gs) (told_none r s gs) (told_best r s gs)

pub told_stands : (G S C : Type 0) → Told G S C
unfolding Told
told_stands G S C r gs = told_cases (least r gs) (reading r gs) (Whole r gs) (whole_cost r gs) (WholeFirst r gs) (none_better_whole r gs) (reading_none r gs) (reading_best r gs)

pub only_stands : (G S C : Type 0) → Only G S C
unfolding Only
only_stands G S C r gs w best =
    let least = none_better_whole r gs w best.is in
    let t = reading_best r gs least.0 least.1 in
    let v : S × List C = t.0 in
    let same-cost : whole_cost r gs w ≡ least.0 = omega (arith, least.2, best.least v t.1.is, t.1.costs) in
    let p = t.1.first w best.is same-cost in
    let q = best.first v t.1.is (t.1.costs ∙ sym same-cost) in
    let start : v.0 ≡ w.0 = sooner_both v.0 w.0 r.starts p.0 q.0 in
    let rest : v.1 ≡ w.1 =
    comes_both r v.0 gs v.1 w.1 t.1.is.1 (subst (λ x. Reads r x gs w.1) (sym start) best.is.1) (p.1 start)
    (subst (λ x. ComesFirst r x gs w.1 v.1) (sym start) (q.1 (sym start))) in
    t.1.told ∙ (λ i. Some (start i, rest i))
