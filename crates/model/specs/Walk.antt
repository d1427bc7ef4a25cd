-- The reading that rows tell. Assumes nothing: these are definitions.
--
-- n: how many states there are, and numbers in a row. after: the row after a step. rows: one for each step, and one after them all, one behind the other.
-- first_met: the first choice with which a step and what follows it cost just so much.
-- walked: from a state on, at each step the first choice with which the step, and what follows it by the row after it, cost what the row before it says; None where there is
-- no such choice.
use Rattle.std.specs.Prelude.{ℕ, ◌+◌, List, [], ◌∷◌, take, drop, Some, Option, ◌==◌, slice_index}
use Rattle.std.specs.Option.{option_map}
use Rattle.least.specs.Minima.{first, and_then}
use Rattle.least.specs.Readers.{Reader}

abbrev pub first_met : {G C : Type 0} → Reader G ℕ C → ℕ → G → List ℕ → ℕ → Option C
first_met r s g after cost = first (λ c. r.cost s g c + slice_index after (r.next s g c) == cost) (r.choices s g)

unfoldable pub walked : {G C : Type 0} → Reader G ℕ C → ℕ → ℕ → List G → List ℕ → Option (List C)
walked r n s [] rows = Some []
walked r n s (g ∷ gs) rows =
    and_then (first_met r s g (take n (drop n rows)) (slice_index rows s)) (λ c. option_map (λ cs. c ∷ cs) (walked r n (r.next s g c) gs (drop n rows)))
