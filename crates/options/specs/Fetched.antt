-- What a program is given that was asked for something. Assumes nothing: these are definitions.
--
-- IsSet: the options are those of a request, but for what a named book's file has. IsAsked: they are what was asked for, and there are none where that is help.
use Rattle.std.specs.Prelude.{◌≡◌, ℕ, Bool, List, Some, None, Option, Ok, Err, Result}
use Rattle.std.specs.Option.{option_map}
use Rattle.std.specs.String.{string_bytes}
use Rattle.taps.specs.Readings.{Book}
use Rattle.taps.specs.Values.{book_of}
use Rattle.taps.specs.BuiltIn.{built_in}
use Rattle.options.specs.Options as options
use Rattle.options.specs.Options.{asked_in}
use Rattle.options.specs.declared.Options.{Options}

-- where no book is named, the built-in one
abbrev pub IsBook : Book → Option (List ℕ) → Type 0
IsBook b None = b ≡ built_in
IsBook b (Some path) = Unit {0}

pub record IsSet (o : Options) (r : options.Request) : Type 0 where
  pub book : IsBook (book_of o.book) r.book
  pub limit : o.limit ≡ r.limit
  pub input : option_map string_bytes o.input ≡ r.input

abbrev pub IsAsked : Option Options → Result options.Asked options.BadOption → Type 0
IsAsked None (Ok options.help) = Unit {0}
IsAsked (Some o) (Ok (options.run r)) = IsSet o r
IsAsked None (Ok (options.run r)) = ⊥
IsAsked (Some o) (Ok options.help) = ⊥
IsAsked o (Err e) = ⊥

-- some words ask for it; which they are, the program's arguments, no contract of the library says
abbrev pub CanBeAsked : Bool → Option Options → Type 0
CanBeAsked takes_limit o = (words : List (List ℕ)) × IsAsked o (asked_in takes_limit words)
