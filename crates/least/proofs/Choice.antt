-- One choice, and then the rest: if the rest is the first best after each choice, the cheapest choice with its rest is the first best of all. Assumes nothing.
use Rattle.std.proofs.Common.{◌≡◌, ℕ, ◌+◌, List, Some, None, Option, sym, refl, ap, ◌∙◌, subst, arith, MatchOption}
use Rattle.std.specs.Option.{option_map}
use Rattle.std.proofs.lemmas.Option.{none-some}
use Rattle.least.specs.Minima.{Least, Best, plus, over, and_then, cheapest, Among, Sooner}
use Rattle.least.proofs.Minimal.{Within, within_more, no_more_some, plus_some, least_from, over_under, cheapest_found, cheapest_none}

-- each choice x costs w x, and `after x` is the least of the rest after it
module _ {A : Type 0} (w : A → ℕ) (after : A → Option ℕ) (xs : List A) (x : A) (v : ℕ) (member : Among x xs) (within : Within (after x) v) where
  chosen : Within (over (λ y. plus (w y) (after y)) xs) (w x + within.0)
  chosen = no_more_some _ _ (w x + within.0) (over_under (λ y. plus (w y) (after y)) x xs member) (ap (plus (w x)) within.1)

  pub chosen_within : Within (over (λ y. plus (w y) (after y)) xs) (w x + v)
  chosen_within = within_more _ (w x + within.0) (w x + v) chosen (omega (arith, within.2))

  -- if a choice and a rest are the least, so is the choice with the least after it
  chosen_least : over (λ y. plus (w y) (after y)) xs ≡ Some (w x + v) → plus (w x) (after x) ≡ Some (w x + v)
  chosen_least e = let same : chosen.0 ≡ w x + v = cc chosen.1 in ap (plus (w x)) within.1 ∙ ap Some (omega (arith, chosen.2, within.2))

-- rest x: the rest that is told after x
module _ {A B C : Type 0} (whole : A → B → C) (w : A → ℕ) (after : A → Option ℕ) (rest : A → Option B) where
  abbrev pub choose : List A → Option C
  choose xs = and_then (cheapest (λ y. plus (w y) (after y)) xs) (λ y. option_map (whole y) (rest y))

  pub choice_none : (xs : List A) → over (λ y. plus (w y) (after y)) xs ≡ None → choose xs ≡ None
  choice_none xs e = ap (λ o. and_then o (λ y. option_map (whole y) (rest y))) (cheapest_none (λ y. plus (w y) (after y)) xs e)

-- what is told is there: one that costs m, and of those that cost so much the first
pub record ToldBest {B : Type 0} (says : Option B) (Is : B → Type 0) (cost : B → ℕ) (Before : B → B → Type 0) (m : ℕ) (b : B) : Type 0 where
  pub told : says ≡ Some b
  pub is : Is b
  pub costs : cost b ≡ m
  pub first : (d : B) → Is d → cost d ≡ m → Before b d

-- so what it costs is the least
pub told_least : {B : Type 0} (m : Option ℕ) (says : Option B) (Is : B → Type 0) (cost : B → ℕ) (Before : B → B → Type 0) → ((b : B) → Is b → Within m (cost b)) →
    ((v : ℕ) → m ≡ Some v → (b : B) × ToldBest says Is cost Before v b) → Least (λ v. (b : B) × Is b × (v ≡ cost b)) m
told_least m says Is cost Before under told =
    least_from _ m (λ v e. let t = told v e in (t.0, t.1.is, sym t.1.costs)) (λ v h. within_more m (cost h.0) v (under h.0 h.1) (omega (arith, h.2)))

-- and it is the first best; and where nothing is told there is none
pub told_cases : {B : Type 0} (m : Option ℕ) (says : Option B) (Is : B → Type 0) (cost : B → ℕ) (Before : B → B → Type 0) → ((b : B) → Is b → Within m (cost b)) → (m ≡ None → says ≡ None) →
    ((v : ℕ) → m ≡ Some v → (b : B) × ToldBest says Is cost Before v b) → MatchOption says ((m ≡ None) × ((b : B) → Is b → ⊥)) (λ b. (m ≡ Some (cost b)) × Best Is cost Before b)
told_cases None says Is cost Before under none told = rw (none refl) (refl, λ b i. none-some (under b i).0 (under b i).1)
told_cases (Some m) says Is cost Before under none told =
    let t = told m refl in
    let best : Best Is cost Before t.0 =
    record {
      is = t.1.is;
      least = λ d i. let w = under d i in let same : w.0 ≡ m = cc w.1 in omega (arith, w.2, t.1.costs);
      first = λ d i f. t.1.first d i (f ∙ t.1.costs);
    } in
    rw t.1.told (ap Some (sym t.1.costs), best)

-- Is x b: b is a rest after x, which costs cost x b. Before x b d: of two rests after x, b comes no later
module _ {A B C : Type 0} (whole : A → B → C) (w : A → ℕ) (after : A → Option ℕ) (rest : A → Option B) (Is : A → B → Type 0) (cost : A → B → ℕ) (Before : A → B → B → Type 0)
    (under : (x : A) (b : B) → Is x b → Within (after x) (cost x b)) where
  pub record ChoiceBest (xs : List A) (m : ℕ) (x : A) (b : B) : Type 0 where
    pub told : choose whole w after rest xs ≡ Some (whole x b)
    pub among : Among x xs
    pub is : Is x b
    pub costs : w x + cost x b ≡ m
    pub first : (y : A) (d : B) → Among y xs → Is y d → w y + cost y d ≡ m → Sooner x y xs × (x ≡ y → Before x b d)

  pub choice_best : ((x : A) (m : ℕ) → after x ≡ Some m → (b : B) × ToldBest (rest x) (Is x) (cost x) (Before x) m b) → (xs : List A) (m : ℕ) → over (λ y. plus (w y) (after y)) xs ≡ Some m → (x : A) × (b : B) × ChoiceBest xs m x b
  choice_best best xs m e =
      let c = cheapest_found (λ y. plus (w y) (after y)) xs m e in
      let x : A = c.0 in
      let left = plus_some (w x) (after x) m c.1.costs in
      let r = best x left.0 left.1 in (
        x,
        r.0,
        record {
          told = ap (λ o. and_then o (λ y. option_map (whole y) (rest y))) c.1.is ∙ ap (option_map (whole x)) r.1.told;
          among = c.1.among;
          is = r.1.is;
          costs = omega (arith, r.1.costs, left.2);
          first = λ y d a i f. (
            c.1.sooner y (chosen_least w after xs y (cost y d) a (under y d i) (e ∙ ap Some (sym f)) ∙ ap Some f) a,
            λ same. let moved : w x + cost x d ≡ m = ap (λ z. w z + cost z d) same ∙ f in r.1.first d (subst (λ z. Is z d) (sym same) i) (omega (arith, left.2)),
          );
        },
      )
