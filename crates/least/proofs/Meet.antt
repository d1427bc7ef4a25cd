-- Prefix costs are the least of the readings that end in their state, and meet suffix costs at every step. Assumes nothing.
use Rattle.std.proofs.Common.{◌≡◌, ℕ, ◌+◌, ◌≤◌, true, List, [], ◌∷◌, ◌++◌, Some, Option, sym, refl, ap, ◌∙◌, subst, arith}
use Rattle.least.specs.Minima.{Least, plus, both, over, Among}
use Rattle.least.specs.Readers.{Reader, Reads, total, end, suffix, told, ComesFirst, Whole, whole_cost, WholeFirst, least, reading, States, begin, onward, along, prefix}
use Rattle.least.specs.Laws.{EndingCost, Meets}
use Rattle.least.proofs.Minimal.{least_found, least_within, least_from, least_more, least_same, cond_least, both_least, plus_least, over_least}
use Rattle.least.proofs.Choice.{told_least}
use Rattle.least.proofs.Best.{none_better, none_better_whole, told_best, reading_best}
use Rattle.least.proofs.Parts.{reads_join, reads_split, total_join}

module _ {G S C : Type 0} (r : Reader G S C) where
  abbrev pub SuffixCost : S → List G → ℕ → Type 0
  SuffixCost s gs v = (cs : List C) × Reads r s gs cs × (v ≡ total r s gs cs)

  pub suffix_least : (s : S) (gs : List G) → Least (SuffixCost s gs) (suffix r s gs)
  suffix_least s gs = told_least (suffix r s gs) (told r s gs) (Reads r s gs) (total r s gs) (ComesFirst r s gs) (none_better r s gs) (told_best r s gs)

  abbrev pub WholeCost : List G → ℕ → Type 0
  WholeCost gs v = (w : S × List C) × Whole r gs w × (v ≡ whole_cost r gs w)

  pub whole_least : (gs : List G) → Least (WholeCost gs) (least r gs)
  whole_least gs = told_least (least r gs) (reading r gs) (Whole r gs) (whole_cost r gs) (WholeFirst r gs) (none_better_whole r gs) (reading_best r gs)

  module _ (st : States r) where
    pub end_in : (s : S) (gs : List G) (cs : List C) → Among s st.all → Reads r s gs cs → Among (end r s gs cs) st.all
    end_in s [] cs a i = a
    end_in s (g ∷ gs) [] a i = a
    end_in s (g ∷ gs) (c ∷ cs) a i = end_in (r.next s g c) gs cs (st.next_in s g c a i.0) i.1

    -- a row has costs only for states that there are
    abbrev pub Inside : (S → Option ℕ) → Type 0
    Inside row = (s : S) (v : ℕ) → row s ≡ Some v → Among s st.all

    abbrev pub BeginCost : S → ℕ → Type 0
    BeginCost t v = (s : S) × Among s r.starts × ((st.same s t ≡ true) × (v ≡ r.entry s))

    begin_least : (t : S) → Least (BeginCost t) (begin r st t)
    begin_least t =
        over_least _ r.starts (λ s v. (st.same s t ≡ true) × (v ≡ r.entry s))
        (λ s a. cond_least (λ v. v ≡ r.entry s) (st.same s t) (Some (r.entry s)) (refl, λ v e. omega arith))

    pub begin_inside : Inside (begin r st)
    begin_inside t v e = let h = least_found _ _ v (begin_least t) e in subst (λ x. Among x st.all) (st.same_is h.0 t h.2.0) (st.starts_in h.0 h.1)

    -- one step from a state that the row has a cost for
    abbrev pub StepCost : (S → Option ℕ) → G → S → ℕ → Type 0
    StepCost row g t v =
        (s : S) × Among s st.all × ((c : C) × Among c (r.choices s g) × ((st.same (r.next s g c) t ≡ true) × ((a : ℕ) × (row s ≡ Some a) × (v ≡ r.cost s g c + a))))

    pub onward_least : (row : S → Option ℕ) (g : G) (t : S) → Least (StepCost row g t) (onward r st row g t)
    onward_least row g t =
        over_least _ st.all (λ s v. (c : C) × Among c (r.choices s g) × ((st.same (r.next s g c) t ≡ true) × ((a : ℕ) × (row s ≡ Some a) × (v ≡ r.cost s g c + a))))
        (λ s _. over_least _ (r.choices s g) (λ c v. (st.same (r.next s g c) t ≡ true) × ((a : ℕ) × (row s ≡ Some a) × (v ≡ r.cost s g c + a)))
        (λ c _. cond_least _ (st.same (r.next s g c) t) (plus (r.cost s g c) (row s)) (plus_least (r.cost s g c) (row s))))

    pub onward_inside : (row : S → Option ℕ) (g : G) → Inside (onward r st row g)
    onward_inside row g t v e =
        let h = least_found _ _ v (onward_least row g t) e in
        subst (λ x. Among x st.all) (st.same_is (r.next h.0 g h.2.0) t h.2.2.0) (st.next_in h.0 g h.2.0 h.1 h.2.1)

    -- steps from a state that the row has a cost for
    abbrev pub AlongCost : (S → Option ℕ) → List G → S → ℕ → Type 0
    AlongCost row gs t v = (s : S) × (cs : List C) × (a : ℕ) × (row s ≡ Some a) × Reads r s gs cs × (end r s gs cs ≡ t) × (v ≡ a + total r s gs cs)

    -- one step and then the others are steps together; and steps together cost no less than the least of one step and then the others
    step_along : (row : S → Option ℕ) (g : G) (gs : List G) (t : S) (v : ℕ) → AlongCost (onward r st row g) gs t v → AlongCost row (g ∷ gs) t v
    step_along row g gs t v h =
        let o = least_found _ _ h.2 (onward_least row g h.0) h.3 in
        let s : S = o.0 in
        let c : C = o.2.0 in
        let a : ℕ = o.2.2.1.0 in
        let to : r.next s g c ≡ h.0 = st.same_is (r.next s g c) h.0 o.2.2.0 in
        let same : total r (r.next s g c) gs h.1 ≡ total r h.0 gs h.1 = ap (λ x. total r x gs h.1) to in (
          s,
          c ∷ h.1,
          a,
          o.2.2.1.1,
          (o.2.1, subst (λ x. Reads r x gs h.1) (sym to) h.4),
          ap (λ x. end r x gs h.1) to ∙ h.5,
          omega (arith, h.6, o.2.2.1.2),
        )

    along_step : (row : S → Option ℕ) → Inside row → (g : G) (gs : List G) (t : S) (v : ℕ) → AlongCost row (g ∷ gs) t v → (u : ℕ) × AlongCost (onward r st row g) gs t u × (u ≤ v)
    along_step row inside g gs t v (s, [], a, e, i, f, q) = absurd i
    along_step row inside g gs t v (s, c ∷ cs, a, e, i, f, q) =
        let w =
        least_within _ _ (r.cost s g c + a) (onward_least row g (r.next s g c)) (s, inside s a e, (c, i.0, (st.is_same (r.next s g c), (a, e, refl)))) in
        (w.0 + total r (r.next s g c) gs cs, (r.next s g c, cs, w.0, w.1, i.1, f, refl), omega (arith, w.2))

    pub along_least : (row : S → Option ℕ) → Inside row → (gs : List G) (t : S) → Least (AlongCost row gs t) (along r st row gs t)
    unfolding along
    along_least row inside [] t =
        least_from _ (row t) (λ v e. (t, [], v, e, tt, refl, omega arith))
        (λ v h. (h.2, ap row (sym h.5) ∙ h.3, omega (arith, h.6)))
    along_least row inside (g ∷ gs) t =
        least_more _ _ _ (along_least (onward r st row g) (onward_inside row g) gs t) (λ v. step_along row g gs t v) (λ v. along_step row inside g gs t v)

    pub prefix_least : (gs : List G) (t : S) → Least (EndingCost r gs t) (prefix r st gs t)
    prefix_least gs t =
        least_more _ _ _ (along_least (begin r st) begin_inside gs t)
        (λ v h.
        let b = least_found _ _ h.2 (begin_least h.0) h.3 in
        let same : b.0 ≡ h.0 = st.same_is b.0 h.0 b.2.0 in
        let starts : Among h.0 r.starts = subst (λ x. Among x r.starts) same b.1 in
        let entry : r.entry b.0 ≡ r.entry h.0 = ap r.entry same in
        ((h.0, h.1), ((starts, h.4), h.5), omega (arith, h.6, b.2.1)))
        (λ v h.
        let s : S = h.0.0 in
        let w = least_within _ _ (r.entry s) (begin_least s) (s, h.1.0.0, (st.is_same s, refl)) in
        (w.0 + total r s gs h.0.1, (s, h.0.1, w.0, w.1, h.1.0.1, h.1.1, refl), omega (arith, w.2, h.2)))

    pub least_last : (gs : List G) → least r gs ≡ over (prefix r st gs) st.all
    least_last gs =
        least_same _ _ _ _ (whole_least gs) (over_least (prefix r st gs) st.all (EndingCost r gs) (λ t _. prefix_least gs t))
        (λ v h. (v, (end r h.0.0 gs h.0.1, end_in h.0.0 gs h.0.1 (st.starts_in h.0.0 h.1.0) h.1.1, (h.0, (h.1, refl), h.2)), omega arith))
        (λ v h. (v, (h.2.0, h.2.1.0, h.2.2), omega arith))

    -- a reading that ends in a state, and one that goes on from there
    abbrev pub MeetingCost : List G → List G → ℕ → Type 0
    MeetingCost gs hs v = (t : S) × Among t st.all × ((a : ℕ) × (b : ℕ) × EndingCost r gs t a × SuffixCost t hs b × (v ≡ a + b))

    meeting_whole : (gs hs : List G) (v : ℕ) → MeetingCost gs hs v → WholeCost (gs ++ hs) v
    meeting_whole gs hs v h =
        let front = h.2.2 in
        let back = h.2.3 in
        let s : S = front.0.0 in
        let cs : List C = front.0.1 in
        let ds : List C = back.0 in
        let ends : end r s gs cs ≡ h.0 = front.1.1 in
        let after : total r (end r s gs cs) hs ds ≡ total r h.0 hs ds = ap (λ x. total r x hs ds) ends in (
          (s, cs ++ ds),
          (front.1.0.0, reads_join r s gs hs cs ds front.1.0.1 (subst (λ x. Reads r x hs ds) (sym ends) back.1)),
          omega (arith, h.2.4, front.2, back.2, total_join r s gs hs cs ds front.1.0.1),
        )

    whole_meeting : (gs hs : List G) (v : ℕ) → WholeCost (gs ++ hs) v → MeetingCost gs hs v
    whole_meeting gs hs v h =
        let s : S = h.0.0 in
        let p = reads_split r s gs hs h.0.1 h.1.1 in
        let cs : List C = p.0 in
        let ds : List C = p.1 in
        let whole : total r s (gs ++ hs) h.0.1 ≡ total r s (gs ++ hs) (cs ++ ds) = ap (total r s (gs ++ hs)) p.2.is in (
          end r s gs cs,
          end_in s gs cs (st.starts_in s h.1.0) p.2.front,
          (
            whole_cost r gs (s, cs),
            total r (end r s gs cs) hs ds,
            ((s, cs), ((h.1.0, p.2.front), refl), refl),
            (ds, p.2.back, refl),
            omega (arith, h.2, total_join r s gs hs cs ds p.2.front),
          ),
        )

    pub meets : (gs hs : List G) → least r (gs ++ hs) ≡ over (λ t. both (prefix r st gs t) (suffix r t hs)) st.all
    meets gs hs =
        least_same _ _ _ _ (whole_least (gs ++ hs))
        (over_least _ st.all (λ t v. (a : ℕ) × (b : ℕ) × EndingCost r gs t a × SuffixCost t hs b × (v ≡ a + b))
        (λ t _. both_least (EndingCost r gs t) (SuffixCost t hs) (prefix r st gs t) (suffix r t hs) (prefix_least gs t) (suffix_least t hs)))
        (λ v h. (v, whole_meeting gs hs v h, omega arith))
        (λ v h. (v, meeting_whole gs hs v h, omega arith))

pub meets_stands : (G S C : Type 0) → Meets G S C
unfolding Meets
meets_stands G S C r st gs = (prefix_least r st gs, least_last r st gs, meets r st gs)
