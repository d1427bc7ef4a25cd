-- The general reader: ways through any steps, by any choices, and the least that they cost. Assumes nothing: these are definitions.
--
-- Reader: from which states a reading may start and what each start costs; for each state and step the choices, in their order, which may be none; what a choice costs,
-- and the state after it. In the field's words: a trellis, whose best path is wanted (Viterbi, over min and plus).
-- s: a state. gs: the steps, from the first on. cs: the choices made, one for each step.
-- suffix: the least that the steps cost from a state on. told: the first of the readings that cost so little.
-- prefix: for each state the least that steps cost that end there.
use Rattle.std.specs.Prelude.{◌≡◌, ℕ, ◌+◌, Bool, true, cond, List, [], ◌∷◌, map, Some, None, Option}
use Rattle.std.specs.Option.{option_map}
use Rattle.least.specs.Minima.{plus, over, joined, and_then, cheapest, Among, Sooner}

pub record Reader (G S C : Type 0) : Type 0 where
  pub starts : List S
  pub entry : S → ℕ
  pub choices : S → G → List C
  pub cost : S → G → C → ℕ
  pub next : S → G → C → S

-- cs is a reading of gs from s on: one choice for each step, each of those that there are
abbrev pub Reads : {G S C : Type 0} → Reader G S C → S → List G → List C → Type 0
Reads r s [] [] = Unit {0}
Reads r s [] (c ∷ cs) = ⊥
Reads r s (g ∷ gs) [] = ⊥
Reads r s (g ∷ gs) (c ∷ cs) = Among c (r.choices s g) × Reads r (r.next s g c) gs cs

-- what it costs
abbrev pub total : {G S C : Type 0} → Reader G S C → S → List G → List C → ℕ
total r s [] cs = 0
total r s (g ∷ gs) [] = 0
total r s (g ∷ gs) (c ∷ cs) = r.cost s g c + total r (r.next s g c) gs cs

-- the state that it ends in
abbrev pub end : {G S C : Type 0} → Reader G S C → S → List G → List C → S
end r s [] cs = s
end r s (g ∷ gs) [] = s
end r s (g ∷ gs) (c ∷ cs) = end r (r.next s g c) gs cs

-- the least from a state on, computed from the last step on; None where there is no reading
unfoldable pub suffix : {G S C : Type 0} → Reader G S C → S → List G → Option ℕ
suffix r s [] = Some 0
suffix r s (g ∷ gs) = over (λ c. plus (r.cost s g c) (suffix r (r.next s g c) gs)) (r.choices s g)

-- the reading told: at each step the first choice with which the least can still be had
unfoldable pub told : {G S C : Type 0} → Reader G S C → S → List G → Option (List C)
told r s [] = Some []
told r s (g ∷ gs) =
    and_then (cheapest (λ c. plus (r.cost s g c) (suffix r (r.next s g c) gs)) (r.choices s g)) (λ c. option_map (λ cs. c ∷ cs) (told r (r.next s g c) gs))

-- cs comes before ds or is it: at the first step at which they differ its choice is met sooner
abbrev pub ComesFirst : {G S C : Type 0} → Reader G S C → S → List G → List C → List C → Type 0
ComesFirst r s [] cs ds = Unit {0}
ComesFirst r s (g ∷ gs) [] ds = Unit {0}
ComesFirst r s (g ∷ gs) (c ∷ cs) [] = Unit {0}
ComesFirst r s (g ∷ gs) (c ∷ cs) (d ∷ ds) = Sooner c d (r.choices s g) × (c ≡ d → ComesFirst r (r.next s g c) gs cs ds)

-- all readings from a state on, in that order
unfoldable pub readings : {G S C : Type 0} → Reader G S C → S → List G → List (List C)
readings r s [] = [] ∷ []
readings r s (g ∷ gs) = joined (λ c. map (λ cs. c ∷ cs) (readings r (r.next s g c) gs)) (r.choices s g)

-- a whole reading: a start, and a reading from there on; what it costs, and which comes first
abbrev pub Whole : {G S C : Type 0} → Reader G S C → List G → S × List C → Type 0
Whole r gs w = Among w.0 r.starts × Reads r w.0 gs w.1

abbrev pub whole_cost : {G S C : Type 0} → Reader G S C → List G → S × List C → ℕ
whole_cost r gs w = r.entry w.0 + total r w.0 gs w.1

abbrev pub WholeFirst : {G S C : Type 0} → Reader G S C → List G → S × List C → S × List C → Type 0
WholeFirst r gs w v = Sooner w.0 v.0 r.starts × (w.0 ≡ v.0 → ComesFirst r w.0 gs w.1 v.1)

-- the least of all, and the reading told with its start: the first start with which the least can be had
abbrev pub least : {G S C : Type 0} → Reader G S C → List G → Option ℕ
least r gs = over (λ s. plus (r.entry s) (suffix r s gs)) r.starts

abbrev pub reading : {G S C : Type 0} → Reader G S C → List G → Option (S × List C)
reading r gs = and_then (cheapest (λ s. plus (r.entry s) (suffix r s gs)) r.starts) (λ s. option_map (λ cs. (s, cs)) (told r s gs))

-- finitely many states, told apart by a test, that no reading leaves
pub record States {G S C : Type 0} (r : Reader G S C) : Type 0 where
  pub all : List S
  pub same : S → S → Bool
  pub same_is : (s t : S) → same s t ≡ true → s ≡ t
  pub is_same : (s : S) → same s s ≡ true
  pub starts_in : (s : S) → Among s r.starts → Among s all
  pub next_in : (s : S) (g : G) (c : C) → Among s all → Among c (r.choices s g) → Among (r.next s g c) all

-- a row has a cost for each state. The row before the first step, and the row after one more step
abbrev pub begin : {G S C : Type 0} (r : Reader G S C) → States r → S → Option ℕ
begin r st t = over (λ s. cond (st.same s t) (Some (r.entry s)) None) r.starts

abbrev pub onward : {G S C : Type 0} (r : Reader G S C) → States r → (S → Option ℕ) → G → S → Option ℕ
onward r st row g t = over (λ s. over (λ c. cond (st.same (r.next s g c) t) (plus (r.cost s g c) (row s)) None) (r.choices s g)) st.all

unfoldable pub along : {G S C : Type 0} (r : Reader G S C) → States r → (S → Option ℕ) → List G → S → Option ℕ
along r st row [] = row
along r st row (g ∷ gs) = along r st (onward r st row g) gs

-- the least of the readings that end in a state, computed from the first step on
abbrev pub prefix : {G S C : Type 0} (r : Reader G S C) → States r → List G → S → Option ℕ
prefix r st gs = along r st (begin r st) gs
