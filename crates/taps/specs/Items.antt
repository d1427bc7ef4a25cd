-- What a short list by value holds. Assumes nothing: this is a definition.
use Rattle.std.specs.Prelude.{ℕ, List, take}
use Rattle.taps.specs.declared.listed.Listed.{Listed}

-- the first `count` of `all`
abbrev pub items : {T : Type 0} {n : ℕ} → Listed T n → List T
items l = take l.count l.all
