-- A kind of the code's book costs what the kind at its place costs. Assumes nothing.
use Rattle.std.proofs.Common.{◌≡◌, ℕ, ◌+◌, ◌*◌, ◌<◌, List, map, length, get_or, sym, ap, ◌∙◌, arith}
use Rattle.std.proofs.lemmas.List.{get_or-map, length-map}
use Rattle.taps.specs.Items.{items}
use Rattle.taps.specs.Readings.{apart, kind_at, tempo_at}
use Rattle.taps.specs.Values.{kind_of, book_of}
use Rattle.taps.specs.declared.book.Book.{Book}
use Rattle.taps.specs.declared.kind.Kind.{Kind}
use Rattle.fit.specs.Fit.{fit}

-- kinds and tempi as slices
module _ (b : Book) (ks : List Kind) (ts : List ℕ) (same_kinds : ks ≡ items b.kinds.list) (same_tempi : ts ≡ items b.tempi.list) where
  pub kinds_size : length (book_of b).kinds ≡ length ks
  kinds_size = ap (λ xs. length (map kind_of xs)) (sym same_kinds) ∙ length-map ks kind_of

  pub fit_is : (gap k t : ℕ) (kind : Kind) → k < length ks → kind ≡ get_or ks k kind → apart (12 * gap) (kind.ticks * get_or ts t 0) + kind.weight ≡ fit (book_of b) gap k t
  fit_is gap k t kind h e =
      let mapped = get_or-map kind_of ks k kind (record { ticks = 0; weight = 0 }) h in
      let is : kind_at (book_of b) k ≡ kind_of kind = ap (λ xs. kind_at (record (book_of b) { kinds = map kind_of xs }) k) (sym same_kinds) ∙ mapped ∙ ap kind_of (sym e) in
      let at : tempo_at (book_of b) t ≡ get_or ts t 0 = ap (λ xs. get_or xs t 0) (sym same_tempi) in
      rw (is, at) (omega arith)
