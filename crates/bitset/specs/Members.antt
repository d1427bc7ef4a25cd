-- Which numbers a set has. Assumes nothing: this is a definition.
use Rattle.std.specs.Prelude.{ℕ, Bool, ◌==◌}
use Rattle.std.specs.Int.{bit_at}

-- the number i is in the set with these bits: bit i is 1
abbrev pub member : ℕ → ℕ → Bool
member bits i = bit_at bits i == 1
