-- All readings, tried in their order: the first of the cheapest is the one told. Assumes nothing.
use Rattle.std.proofs.Common.{◌≡◌, List, [], ◌∷◌, Some, None, Option, sym, refl, ap, ◌∙◌, subst, inl, inr, arith}
use Rattle.least.specs.Minima.{over, cheapest, Among, Sooner}
use Rattle.least.specs.Readers.{Reader, Reads, total, suffix, told, ComesFirst, readings}
use Rattle.least.specs.Laws.{Tried}
use Rattle.least.proofs.Minimal.{least_same, over_numbers, cheapest_found, cheapest_none}
use Rattle.least.proofs.Lists.{pairs_from, pairs_have, pairs_first, pairs_second}
use Rattle.least.proofs.Best.{told_best, told_none, comes_both}
use Rattle.least.proofs.Meet.{suffix_least}

by_option : {A : Type 0} (o : Option A) (P : Type 0) → (o ≡ None → P) → ((a : A) → o ≡ Some a → P) → P
by_option None P none some = none refl
by_option (Some a) P none some = some a refl

module _ {G S C : Type 0} (r : Reader G S C) where
  pub readings_from : (s : S) (gs : List G) (cs : List C) → Among cs (readings r s gs) → Reads r s gs cs
  unfolding readings
  readings_from s [] cs (inl e) = rw e tt
  readings_from s [] cs (inr a) = absurd a
  readings_from s (g ∷ gs) cs a =
      let p = pairs_from ◌∷◌ (λ c. readings r (r.next s g c) gs) cs (r.choices s g) a in
      rw p.4 (p.2, readings_from (r.next s g p.0) gs p.1 p.3)

  pub readings_have : (s : S) (gs : List G) (cs : List C) → Reads r s gs cs → Among cs (readings r s gs)
  unfolding readings
  readings_have s [] [] i = inl refl
  readings_have s [] (c ∷ cs) i = absurd i
  readings_have s (g ∷ gs) [] i = absurd i
  readings_have s (g ∷ gs) (c ∷ cs) i =
      pairs_have ◌∷◌ (λ d. readings r (r.next s g d) gs) c cs (r.choices s g) i.0 (readings_have (r.next s g c) gs cs i.1)

  -- the list's order is that of the choices from step to step
  sooner_comes : (s : S) (gs : List G) (cs ds : List C) → Reads r s gs cs → Reads r s gs ds → Sooner cs ds (readings r s gs) → ComesFirst r s gs cs ds
  unfolding readings
  sooner_comes s [] cs ds i j p = tt
  sooner_comes s (g ∷ gs) [] ds i j p = absurd i
  sooner_comes s (g ∷ gs) (c ∷ cs) [] i j p = absurd j
  sooner_comes s (g ∷ gs) (c ∷ cs) (d ∷ ds) i j p =
      let there : Among ds (readings r (r.next s g d) gs) = readings_have (r.next s g d) gs ds j.1 in
      let after : C → List (List C) = λ x. readings r (r.next s g x) gs in (
        pairs_first ◌∷◌ after (λ a b xs ys f. cc) (λ a b xs ys f. cc) c d cs ds there (r.choices s g) p,
        λ e.
            sooner_comes (r.next s g c) gs cs ds i.1 (subst (λ x. Reads r (r.next s g x) gs ds) (sym e) j.1)
            (pairs_second ◌∷◌ after (λ a b xs ys f. cc) (λ a b xs ys f. cc) c d cs ds there (r.choices s g) e p),
      )

  pub suffix_tried : (s : S) (gs : List G) → suffix r s gs ≡ over (λ cs. Some (total r s gs cs)) (readings r s gs)
  suffix_tried s gs =
      least_same _ _ _ _ (suffix_least r s gs)
      (over_numbers (total r s gs) (readings r s gs))
      (λ v h. (v, (h.0, readings_have s gs h.0 h.1, h.2), omega arith))
      (λ v h. (v, (h.0, readings_from s gs h.0 h.1, h.2), omega arith))

  pub told_tried : (s : S) (gs : List G) → told r s gs ≡ cheapest (λ cs. Some (total r s gs cs)) (readings r s gs)
  told_tried s gs =
      by_option (suffix r s gs) _
      (λ e. told_none r s gs e ∙ sym (cheapest_none (λ cs. Some (total r s gs cs)) (readings r s gs) (sym (suffix_tried s gs) ∙ e)))
      (λ m e.
      let t = told_best r s gs m e in
      let f = cheapest_found (λ cs. Some (total r s gs cs)) (readings r s gs) m (sym (suffix_tried s gs) ∙ e) in
      let reads : Reads r s gs f.0 = readings_from s gs f.0 f.1.among in
      let before : ComesFirst r s gs t.0 f.0 = t.1.first f.0 reads (cc f.1.costs) in
      let back : ComesFirst r s gs f.0 t.0 = sooner_comes s gs f.0 t.0 reads t.1.is (f.1.sooner t.0 (ap Some t.1.costs) (readings_have s gs t.0 t.1.is)) in
      t.1.told ∙ ap Some (comes_both r s gs t.0 f.0 t.1.is reads before back) ∙ sym f.1.is)

pub tried_stands : (G S C : Type 0) → Tried G S C
unfolding Tried
tried_stands G S C r s gs = (suffix_tried r s gs, told_tried r s gs)
