-- The plain book as a reader of gaps that may be read as some of its kinds only. Assumes nothing: these are definitions.
--
-- A step is a gap with the kinds that it may be read as; a state is the tempo before, as one more than its place, or 0 where there is no gap before; a choice is a Read.
-- restricted: as the reader of `statements/specs/Plain.antt`, but for the kinds. fair: there is some kind to read the gap as.
use Rattle.std.specs.Prelude.{◌≡◌, ℕ, suc, ◌<◌, Bool, true, All, List, [], ◌∷◌, map, length, nat_lt}
use Rattle.bitset.specs.Members.{member}
use Rattle.least.specs.Readers.{Reader}
use Rattle.taps.specs.Readings.{Book, Read, costs}
use Rattle.statements.specs.Plain.{reads_of}
use Rattle.fit.specs.Fit.{allowed}
use Rattle.model.specs.declared.Step.{Step}

abbrev pub kinds_at : Book → Step → List ℕ
kinds_at b g = allowed b g.kinds.bits

abbrev pub restricted : Book → Reader Step ℕ Read
restricted b =
    record { starts = 0 ∷ []; entry = λ _. 0; choices = λ _ g. reads_of b (kinds_at b g); cost = λ before g r. costs b before g.gap r; next = λ _ _ r. suc r.tempo }

-- the states are no tempo before, and each of the book's
abbrev pub state_count : Book → ℕ
state_count b = suc (length b.tempi)

abbrev pub fair : Book → Step → Bool
fair b g = nat_lt 0 (length (kinds_at b g))

-- how many numbers tell what a gap costs by itself: one for each tempo
abbrev pub tempo_count : Book → ℕ
tempo_count b = length b.tempi

-- the gaps of some steps; and that each may be read as any kind
abbrev pub gaps_of : List Step → List ℕ
gaps_of gs = map (λ g. g.gap) gs

abbrev pub Free : List Step → Type 0
Free gs = All (λ g. (k : ℕ) → k < 32 → member g.kinds.bits k ≡ true) gs

-- each gap is below 2^24 ms, as a step's is
abbrev pub Short : List ℕ → Type 0
Short gs = All (λ g. g < 16777216) gs
