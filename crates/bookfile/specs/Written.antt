-- What a book is written as. Assumes nothing: these are definitions.
--
-- book_text: a line for each kind, all under the same name, one with the tempi and one with the change; each ends with a line feed.
use Rattle.std.specs.Prelude.{ℕ, List, [], ◌∷◌, ◌++◌, codes, decimal}
use Rattle.std.specs.List.{flat_map}
use Rattle.taps.specs.Readings.{Kind, Book}

abbrev pub kind_text : Kind → List ℕ
kind_text k = codes "note " ++ (decimal k.ticks ++ (codes ", weight " ++ decimal k.weight))

abbrev pub tempi_text : List ℕ → List ℕ
tempi_text ts = codes "tempi" ++ flat_map (λ t. codes " " ++ decimal t) ts

abbrev pub change_text : ℕ → List ℕ
change_text c = codes "change " ++ decimal c

abbrev pub line_of : List ℕ → List ℕ
line_of text = text ++ 10 ∷ []

abbrev pub book_text : Book → List ℕ
book_text b = flat_map (λ k. line_of (kind_text k)) b.kinds ++ (line_of (tempi_text b.tempi) ++ line_of (change_text b.change))
