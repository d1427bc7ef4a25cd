-- What the plain book owes as a model: its states are finitely many, and a good book has for each fair step a read that costs little. Assumes nothing.
use Rattle.std.proofs.Common.{◌≡◌, ℕ, ◌<◌, ◌≤◌, true, List, [], ◌∷◌, length, refl, inl, inr, arith}
use Rattle.std.specs.List.{range_with_len}
use Rattle.std.proofs.lemmas.Bool.{ltb-true}
use Rattle.least.specs.Minima.{Among}
use Rattle.least.specs.Readers.{States}
use Rattle.least.proofs.Numbered.{numbered}
use Rattle.taps.specs.Readings.{Book, Read, costs}
use Rattle.taps.specs.Promise.{GoodBook}
use Rattle.statements.specs.Plain.{read, reads_of, plain}
use Rattle.statements.proofs.Bound.{costs_little}
use Rattle.statements.proofs.Gap.{of_kinds, kinds_have}
use Rattle.model.specs.Laws.{Lawful}
use Rattle.model.specs.declared.Step.{Step}
use Rattle.model.proofs.Numbers.{row_size}
use Rattle.fit.specs.Fit.{fits, least_fit}
use Rattle.plain.specs.Restricted.{kinds_at, restricted, state_count, tempo_count, fair}

abbrev pub states : (b : Book) → States (restricted b)
states b = numbered (restricted b) (state_count b) (λ s a. elim a [ inl e ↦ omega arith | inr none ↦ absurd none ]) (λ s g r i. omega (arith, (of_kinds b (kinds_at b g) r i).1))

-- and so are those of the general reader that knows of no sets of kinds
abbrev pub plain_states : (b : Book) → States (plain b)
plain_states b = numbered (plain b) (state_count b) (λ s a. elim a [ inl e ↦ omega arith | inr none ↦ absurd none ]) (λ s g r i. omega (arith, (of_kinds b (range_with_len 0 (length b.kinds)) r i).1))

-- a list that is not empty has a first member
some_kind : (ks : List ℕ) → 0 < length ks → (k : ℕ) × Among k ks
some_kind [] h = absurd (omega arith)
some_kind (k ∷ ks) h = (k, inl refl)

-- 2^29: more than a gap costs
abbrev per : ℕ
per = 536870912

little : (b : Book) → GoodBook b → (s : ℕ) (g : Step) → fair b g ≡ true → (r : Read) × Among r (reads_of b (kinds_at b g)) × (costs b s g.gap r ≤ per)
little b good s g h =
    let k = some_kind (kinds_at b g) (ltb-true 0 (length (kinds_at b g)) h) in
    (read k.0 0, kinds_have b (kinds_at b g) (read k.0 0) k.1 good.3, omega (arith, g.short, costs_little b s g.gap (read k.0 0) good))

pub lawful : (b : Book) → GoodBook b → Lawful (restricted b) (states b) (state_count b) (fair b) per
lawful b good = record { below = refl; start = (0, inl refl, omega arith); little = little b good }

-- what a gap costs by itself is a number for each tempo
pub local_sized : (b : Book) (g : Step) → length (fits b g.kinds.bits g.gap) ≡ tempo_count b
local_sized b g = row_size (length b.tempi) (least_fit b g.kinds.bits g.gap)
