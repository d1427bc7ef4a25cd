-- What was written reads back. Assumes nothing: each is a statement.
use Rattle.std.specs.Prelude.{◌≡◌, ℕ, ◌<◌, Some, decimal}
use Rattle.tokens.specs.Tokens.{number_in}

-- the digits of a number of 32 bits are that number
abbrev pub NumberReads : Type 0
NumberReads = (n : ℕ) → n < 4294967296 → number_in (decimal n) ≡ Some n
