-- Where steps are fair and not too many, the least is below the cap. Assumes nothing.
use Rattle.std.proofs.Common.{◌≡◌, ◌+◌, ◌*◌, Bool, true, List, [], ◌∷◌, length, subst, sym, inl, inr, mul-suc, arith}
use Rattle.std.specs.List.{list_all}
use Rattle.std.proofs.lemmas.Bool.{and_parts}
use Rattle.least.specs.Minima.{Among}
use Rattle.least.specs.Readers.{suffix, least}
use Rattle.least.proofs.Best.{bounded}
use Rattle.least.proofs.Capped.{capped_some, capped_within}
use Rattle.least.proofs.Choice.{chosen_within}
use Rattle.taps.specs.Readings.{too_much}
use Rattle.model.specs.Laws.{Exact}

all_fair : {G : Type 0} (fair : G → Bool) (gs : List G) → list_all fair gs ≡ true → (g : G) → Among g gs → fair g ≡ true
all_fair fair [] h g a = absurd a
all_fair fair (x ∷ xs) h g (inl e) = subst (λ y. fair y ≡ true) (sym e) (and_parts (fair x) (list_all fair xs) h).0
all_fair fair (x ∷ xs) h g (inr a) = all_fair fair xs (and_parts (fair x) (list_all fair xs) h).1 g a

pub exact_stands : (G C : Type 0) → Exact G C
unfolding Exact
exact_stands G C r st n fair most lawful gs h few =
    let start = lawful.start in
    let after = bounded r most (λ g. fair g ≡ true) lawful.little start.0 gs (all_fair fair gs h) in
    let whole = chosen_within r.entry (λ s. suffix r s gs) r.starts start.0 (most * length gs) start.1 after in
    let below = capped_within too_much (least r gs) (r.entry start.0 + most * length gs) whole in
    capped_some too_much (least r gs) (omega (arith, below, start.2, mul-suc most (length gs), few))
