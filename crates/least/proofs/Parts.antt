-- A reading in two parts: of the steps up to some place, and of those after it; and what the first best reading begins with. Assumes nothing.
use Rattle.std.proofs.Common.{◌≡◌, ◌+◌, List, [], ◌∷◌, ◌++◌, length, sym, refl, ap, subst, arith}
use Rattle.least.specs.Minima.{Best}
use Rattle.least.specs.Readers.{Reader, Reads, total, end, ComesFirst, Whole, whole_cost, WholeFirst}
use Rattle.least.specs.Laws.{FirstBest, Told, Ending, Begins}
use Rattle.least.proofs.Best.{told_stands}

module _ {G S C : Type 0} (r : Reader G S C) where
  pub reads_join : (s : S) (gs hs : List G) (cs ds : List C) → Reads r s gs cs → Reads r (end r s gs cs) hs ds → Reads r s (gs ++ hs) (cs ++ ds)
  reads_join s [] hs [] ds i j = j
  reads_join s [] hs (c ∷ cs) ds i j = absurd i
  reads_join s (g ∷ gs) hs [] ds i j = absurd i
  reads_join s (g ∷ gs) hs (c ∷ cs) ds i j = (i.0, reads_join (r.next s g c) gs hs cs ds i.1 j)

  reads_parts : (s : S) (gs hs : List G) (cs ds : List C) → length cs ≡ length gs → Reads r s (gs ++ hs) (cs ++ ds) → Reads r s gs cs × Reads r (end r s gs cs) hs ds
  reads_parts s [] hs [] ds n i = (tt, i)
  reads_parts s [] hs (c ∷ cs) ds n i = absurd (omega arith)
  reads_parts s (g ∷ gs) hs [] ds n i = absurd (omega arith)
  reads_parts s (g ∷ gs) hs (c ∷ cs) ds n i = let rest = reads_parts (r.next s g c) gs hs cs ds (omega arith) i.1 in ((i.0, rest.0), rest.1)

  pub record Split (s : S) (gs hs : List G) (es cs ds : List C) : Type 0 where
    pub is : es ≡ cs ++ ds
    pub front : Reads r s gs cs
    pub back : Reads r (end r s gs cs) hs ds

  pub reads_split : (s : S) (gs hs : List G) (es : List C) → Reads r s (gs ++ hs) es → (cs : List C) × (ds : List C) × Split s gs hs es cs ds
  reads_split s [] hs es i = ([], es, record { is = refl; front = tt; back = i })
  reads_split s (g ∷ gs) hs [] i = absurd i
  reads_split s (g ∷ gs) hs (e ∷ es) i =
      let rest = reads_split (r.next s g e) gs hs es i.1 in
      (e ∷ rest.0, rest.1, record { is = ap (λ xs. e ∷ xs) rest.2.is; front = (i.0, rest.2.front); back = rest.2.back })

  pub total_join : (s : S) (gs hs : List G) (cs ds : List C) → Reads r s gs cs → total r s (gs ++ hs) (cs ++ ds) ≡ total r s gs cs + total r (end r s gs cs) hs ds
  total_join s [] hs [] ds i = omega arith
  total_join s [] hs (c ∷ cs) ds i = absurd i
  total_join s (g ∷ gs) hs [] ds i = absurd i
  total_join s (g ∷ gs) hs (c ∷ cs) ds i = omega (arith, total_join (r.next s g c) gs hs cs ds i.1)

  -- of two readings the one that comes first has the beginning that comes first
  comes_front : (s : S) (gs hs : List G) (cs ds es fs : List C) → Reads r s gs cs → Reads r s gs ds → ComesFirst r s (gs ++ hs) (cs ++ es) (ds ++ fs) → ComesFirst r s gs cs ds
  comes_front s [] hs cs ds es fs i j p = tt
  comes_front s (g ∷ gs) hs [] ds es fs i j p = absurd i
  comes_front s (g ∷ gs) hs (c ∷ cs) [] es fs i j p = absurd j
  comes_front s (g ∷ gs) hs (c ∷ cs) (d ∷ ds) es fs i j p = (
    p.0,
    λ same. comes_front (r.next s g c) gs hs cs ds es fs i.1 (subst (λ x. Reads r (r.next s g x) gs ds) (sym same) j.1) (p.1 same),
  )

  -- another beginning that ends in the same state can go on as this one does
  module _ (gs hs : List G) (s : S) (cs ds : List C) (n : length cs ≡ length gs) (best : FirstBest r (gs ++ hs) (s, cs ++ ds)) where
    goes_on : (w : S × List C) → Ending r gs (end r s gs cs) w →
        Whole r (gs ++ hs) (w.0, w.1 ++ ds) × (whole_cost r (gs ++ hs) (w.0, w.1 ++ ds) ≡ whole_cost r gs w + total r (end r s gs cs) hs ds)
    goes_on w i =
        let parts = reads_parts s gs hs cs ds n best.is.1 in
        let there : Reads r (end r w.0 gs w.1) hs ds = subst (λ x. Reads r x hs ds) (sym i.1) parts.1 in
        let same : total r (end r w.0 gs w.1) hs ds ≡ total r (end r s gs cs) hs ds = ap (λ x. total r x hs ds) i.1 in
        ((i.0.0, reads_join w.0 gs hs w.1 ds i.0.1 there), omega (arith, total_join w.0 gs hs w.1 ds i.0.1))

    pub begins : Best (Ending r gs (end r s gs cs)) (whole_cost r gs) (WholeFirst r gs) (s, cs)
    begins =
        let front = (reads_parts s gs hs cs ds n best.is.1).0 in
        let own : Ending r gs (end r s gs cs) (s, cs) = ((best.is.0, front), refl) in
        let cost = (goes_on (s, cs) own).1 in
        record {
          is = own;
          least = λ w i. let o = goes_on w i in omega (arith, o.1, best.least (w.0, w.1 ++ ds) o.0);
          first = λ w i e.
              let o = goes_on w i in
              let p = best.first (w.0, w.1 ++ ds) o.0 (omega (arith, o.1)) in
              (p.0, λ same. comes_front s gs hs cs w.1 ds ds front (subst (λ x. Reads r x gs w.1) (sym same) i.0.1) (p.1 same));
        }

pub begins_stands : (G S C : Type 0) → Begins G S C
unfolding Begins Told
begins_stands G S C r gs hs s cs ds n e = begins r gs hs s cs ds n (rw e at (told_stands G S C r (gs ++ hs))).1
