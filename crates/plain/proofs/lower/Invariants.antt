-- the entries below t are lowered, and the others are as they were
use Rattle.std.proofs.Common.{◌≡◌, ℕ, ◌<◌, ◌≤◌, min, get_or}
use Rattle.plain.proofs.lower.Given as goal

abbrev pub invariant-loop-t : goal.invariant-loop-t
invariant-loop-t l = (j : ℕ) → (j < l.t → get_or l.row j 0 ≡ min (get_or l.fn.row j 0) l.cost) × (l.t ≤ j → get_or l.row j 0 ≡ get_or l.fn.row j 0)
