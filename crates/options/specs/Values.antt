-- What the values of the code stand for, and what is told of a command line that can't be understood. Assumes nothing: these are definitions.
--
-- request_of, asked_of, draft_of, bad_of: what such a value of the code stands for; parts of words stand for their bytes. told: what a result stands for.
-- bad_text: why words can't be understood, as text.
use Rattle.std.specs.Prelude.{ℕ, List, ◌++◌, Ok, Err, Result, codes}
use Rattle.std.specs.Option.{option_map}
use Rattle.options.specs.Options as options
use Rattle.options.specs.declared.request.Request.{Request}
use Rattle.options.specs.declared.request.Asked.{Asked}
use Rattle.options.specs.declared.request.Asked.TheVariants as asked
use Rattle.options.specs.declared.draft.Draft.{Draft}
use Rattle.options.specs.declared.draft.Draft.TheVariants.{AtAny, AtBook, AtLimit, Help}
use Rattle.options.specs.declared.bad_option.BadOption.{BadOption}
use Rattle.options.specs.declared.bad_option.BadOption.TheVariants.{BookMissing, LimitMissing, BadLimit, Unknown, SecondFile}

abbrev pub request_of : Request → options.Request
request_of r = record { book = option_map (λ w. w.now) r.book; limit = r.limit; input = option_map (λ w. w.now) r.input }

abbrev pub asked_of : Asked → options.Asked
asked_of asked.Help = options.help
asked_of (asked.Run r) = options.run (request_of r)

abbrev pub draft_of : Draft → options.Draft
draft_of (AtAny r) = options.at_any (request_of r)
draft_of (AtBook r) = options.at_book (request_of r)
draft_of (AtLimit r) = options.at_limit (request_of r)
draft_of Help = options.helping

abbrev pub bad_of : BadOption → options.BadOption
bad_of BookMissing = options.book_missing
bad_of LimitMissing = options.limit_missing
bad_of (BadLimit w) = options.bad_limit w.now
bad_of (Unknown w) = options.unknown w.now
bad_of SecondFile = options.second_file

abbrev pub told : {A B : Type 0} → (A → B) → Result A BadOption → Result B options.BadOption
told f (Ok a) = Ok (f a)
told f (Err e) = Err (bad_of e)

abbrev pub bad_text : options.BadOption → List ℕ
bad_text options.book_missing = codes "--book wants a file"
bad_text options.limit_missing = codes "--limit wants a number of taps"
bad_text (options.bad_limit w) = codes "--limit takes a number up to 256, and not " ++ w
bad_text (options.unknown w) = codes "unknown option " ++ w
bad_text options.second_file = codes "more than one file"
