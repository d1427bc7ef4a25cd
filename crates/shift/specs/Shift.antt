-- What it costs to be at a tempo that is reached from another, and the least of it over all. Assumes nothing: these are definitions.
--
-- ts: tempi, in ms. c: what a change costs for each ms. row: a cost for each tempo, by its place. s, t: places.
-- reached: what it costs to be at s, reached from t: the cost at t, and the change between the two.
-- Shifted: what two passes over a row leave, of which the first leaves Risen, and the second makes Fallen of it.
use Rattle.std.specs.Prelude.{◌≡◌, ℕ, ◌+◌, ◌*◌, ◌<◌, ◌≤◌, List, length, Some, slice_index}
use Rattle.least.specs.Minima.{Least}
use Rattle.taps.specs.Readings.{apart}

abbrev pub reached : ℕ → List ℕ → List ℕ → ℕ → ℕ → ℕ
reached c ts row s t = slice_index row t + c * apart (slice_index ts s) (slice_index ts t)

-- v is what it costs to be at s, reached from one of the places that From holds of
abbrev pub ReachedFrom : ℕ → List ℕ → List ℕ → ℕ → (ℕ → Type 0) → ℕ → Type 0
ReachedFrom c ts row s From v = (t : ℕ) × From t × (v ≡ reached c ts row s t)

-- each entry is the least over all places
abbrev pub Shifted : ℕ → List ℕ → List ℕ → List ℕ → Type 0
Shifted c ts old new = (s : ℕ) → s < length new → Least (ReachedFrom c ts old s (λ t. t < length old)) (Some (slice_index new s))

-- the places up to s; and those from s on, of n
abbrev pub UpTo : ℕ → ℕ → Type 0
UpTo s t = t ≤ s

abbrev pub FromOn : ℕ → ℕ → ℕ → Type 0
FromOn n s t = (s ≤ t) × (t < n)

-- each entry is the least over these
abbrev pub Risen : ℕ → List ℕ → List ℕ → List ℕ → Type 0
Risen c ts old new = (s : ℕ) → s < length new → Least (ReachedFrom c ts old s (UpTo s)) (Some (slice_index new s))

abbrev pub Fallen : ℕ → List ℕ → List ℕ → List ℕ → Type 0
Fallen c ts old new = (s : ℕ) → s < length new → Least (ReachedFrom c ts old s (FromOn (length old) s)) (Some (slice_index new s))
