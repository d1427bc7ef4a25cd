-- What holds of the general reader, whatever its steps, states and choices are. Each is a statement: a type, whose proof is owed by the function whose contract names it.
-- Assumes nothing.
--
-- Told: what is told is the first best reading. Tried: it is the first of the cheapest of all readings, in their order.
-- Fewer, Imitates: what costs no more than what. Meets: the least from the first step on. Begins: the beginning of the first best reading.
use Rattle.std.specs.Prelude.{◌≡◌, ℕ, ◌+◌, ◌≤◌, Bool, true, false, ◌&&◌, List, [], ◌∷◌, ◌++◌, length, Some, None, MatchOption}
use Rattle.least.specs.Minima.{Least, Best, NoMore, plus, both, over, cheapest, Among}
use Rattle.least.specs.Readers.{Reader, Reads, total, end, suffix, told, ComesFirst, readings, Whole, whole_cost, WholeFirst, least, reading, States, prefix}

-- the first best reading from a state on, and of all
abbrev pub FirstBestFrom : {G S C : Type 0} → Reader G S C → S → List G → List C → Type 0
FirstBestFrom r s gs = Best (Reads r s gs) (total r s gs) (ComesFirst r s gs)

abbrev pub FirstBest : {G S C : Type 0} → Reader G S C → List G → S × List C → Type 0
FirstBest r gs = Best (Whole r gs) (whole_cost r gs) (WholeFirst r gs)

-- where there is a reading at all, the one told is the first best, and the least is what it costs; and what is the first best is told
unfoldable pub ToldFrom : (G S C : Type 0) → Type 0
ToldFrom G S C =
    (r : Reader G S C) (s : S) (gs : List G) →
    MatchOption (told r s gs) ((suffix r s gs ≡ None) × ((cs : List C) → Reads r s gs cs → ⊥)) (λ cs. (suffix r s gs ≡ Some (total r s gs cs)) × FirstBestFrom r s gs cs)

unfoldable pub Told : (G S C : Type 0) → Type 0
Told G S C =
    (r : Reader G S C) (gs : List G) →
    MatchOption (reading r gs) ((least r gs ≡ None) × ((w : S × List C) → Whole r gs w → ⊥)) (λ w. (least r gs ≡ Some (whole_cost r gs w)) × FirstBest r gs w)

unfoldable pub Only : (G S C : Type 0) → Type 0
Only G S C = (r : Reader G S C) (gs : List G) (w : S × List C) → FirstBest r gs w → reading r gs ≡ Some w

-- trying all readings in their order gives the same
unfoldable pub Tried : (G S C : Type 0) → Type 0
Tried G S C =
    (r : Reader G S C) (s : S) (gs : List G) →
    (suffix r s gs ≡ over (λ cs. Some (total r s gs cs)) (readings r s gs)) × (told r s gs ≡ cheapest (λ cs. Some (total r s gs cs)) (readings r s gs))

-- q has only choices and starts of r, with the same states after them, and for no less: then its least is no less
unfoldable pub Fewer : (G S C : Type 0) → Type 0
Fewer G S C =
    (r q : Reader G S C) → ((s : S) → Among s q.starts → Among s r.starts × (r.entry s ≤ q.entry s)) →
    ((s : S) (g : G) (c : C) → Among c (q.choices s g) → Among c (r.choices s g) × (r.cost s g c ≤ q.cost s g c) × (r.next s g c ≡ q.next s g c)) →
    (gs : List G) → NoMore (least r gs) (least q gs)

-- steps of two readers, one beside the other, that fit; and what they cost more in all
abbrev pub fitting : {G H : Type 0} → (G → H → Bool) → List G → List H → Bool
fitting fit [] [] = true
fitting fit [] (h ∷ hs) = false
fitting fit (g ∷ gs) [] = false
fitting fit (g ∷ gs) (h ∷ hs) = fit g h && fitting fit gs hs

abbrev pub extras : {G H : Type 0} → (G → H → ℕ) → List G → List H → ℕ
extras extra [] hs = 0
extras extra (g ∷ gs) [] = 0
extras extra (g ∷ gs) (h ∷ hs) = extra g h + extras extra gs hs

-- q can do from states beside those of r, at steps that fit, what r does, for at most so much more at each step and at the start: then its least is at most so much more
unfoldable pub Imitates : (G S C H T D : Type 0) → Type 0
Imitates G S C H T D =
    (r : Reader G S C) (q : Reader H T D) (beside : S → T → Bool) (fit : G → H → Bool) (extra : G → H → ℕ) (late : ℕ) →
    ((s : S) → Among s r.starts → (t : T) × Among t q.starts × (beside s t ≡ true) × (q.entry t ≤ r.entry s + late)) →
    ((s : S) (t : T) (g : G) (h : H) (c : C) → beside s t ≡ true → fit g h ≡ true → Among c (r.choices s g) →
    (d : D) × Among d (q.choices t h) × (beside (r.next s g c) (q.next t h d) ≡ true) × (q.cost t h d ≤ r.cost s g c + extra g h)) →
    (gs : List G) (hs : List H) → fitting fit gs hs ≡ true → NoMore (least q hs) (plus (late + extras extra gs hs) (least r gs))

-- whole readings that end in a state; what they cost
abbrev pub Ending : {G S C : Type 0} → Reader G S C → List G → S → S × List C → Type 0
Ending r gs t w = Whole r gs w × (end r w.0 gs w.1 ≡ t)

abbrev pub EndingCost : {G S C : Type 0} → Reader G S C → List G → S → ℕ → Type 0
EndingCost {S = S} {C = C} r gs t v = (w : S × List C) × Ending r gs t w × (v ≡ whole_cost r gs w)

-- a prefix cost is the least of the readings that end in its state, so that the least of all is that of the last row;
-- and at every step prefix costs and suffix costs meet: the least of their sums over all states is the least of all
unfoldable pub Meets : (G S C : Type 0) → Type 0
Meets G S C =
    (r : Reader G S C) (st : States r) (gs : List G) →
    ((t : S) → Least (EndingCost r gs t) (prefix r st gs t))
    × (least r gs ≡ over (prefix r st gs) st.all)
    × ((hs : List G) → least r (gs ++ hs) ≡ over (λ t. both (prefix r st gs t) (suffix r t hs)) st.all)

-- as far as it has come after some steps, the first best reading is the first best of those that end in the state that it passes through
unfoldable pub Begins : (G S C : Type 0) → Type 0
Begins G S C =
    (r : Reader G S C) (gs hs : List G) (s : S) (cs ds : List C) → length cs ≡ length gs → reading r (gs ++ hs) ≡ Some (s, cs ++ ds) →
    Best (Ending r gs (end r s gs cs)) (whole_cost r gs) (WholeFirst r gs) (s, cs)
