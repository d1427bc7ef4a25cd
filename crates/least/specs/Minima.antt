-- Least numbers and first ones of finite choices. Assumes nothing: these are definitions.
--
-- A cost is an `Option ℕ`: a number, or None where there is nothing to choose from, which is more than any number.
-- Least P m: m is the least number that P holds of; None where it holds of none.
-- Among x xs: x stands in the list. Sooner x y xs: from the front on, x is met before y or with it.
use Rattle.std.specs.Prelude.{◌≡◌, ℕ, ◌+◌, ◌<◌, ◌≤◌, min, Bool, false, cond, ◌⊎◌, List, [], ◌∷◌, ◌++◌, length, Some, None, Option, ◌==◌, ◌≢◌, slice_index}

abbrev pub Least : (ℕ → Type 0) → Option ℕ → Type 0
Least P None = (v : ℕ) → P v → ⊥
Least P (Some m) = P m × ((v : ℕ) → P v → m ≤ v)

-- the cost m is no more than the cost n
abbrev pub NoMore : Option ℕ → Option ℕ → Type 0
NoMore m None = Unit {0}
NoMore None (Some n) = ⊥
NoMore (Some m) (Some n) = m ≤ n

-- the lower of two costs
abbrev pub lower : Option ℕ → Option ℕ → Option ℕ
lower None n = n
lower (Some m) None = Some m
lower (Some m) (Some n) = Some (min m n)

-- x more than a cost
abbrev pub plus : ℕ → Option ℕ → Option ℕ
plus x None = None
plus x (Some n) = Some (x + n)

-- two costs together
abbrev pub both : Option ℕ → Option ℕ → Option ℕ
both None n = None
both (Some m) n = plus m n

-- a cost as a number that is never above a cap, which stands for none as well
abbrev pub capped : ℕ → Option ℕ → ℕ
capped most None = most
capped most (Some n) = min n most

-- the cost is there, and is just the number
abbrev pub hits : ℕ → Option ℕ → Bool
hits m None = false
hits m (Some n) = n == m

-- the least of what the members of a list cost
abbrev pub over : {A : Type 0} → (A → Option ℕ) → List A → Option ℕ
over f [] = None
over f (x ∷ xs) = lower (f x) (over f xs)

-- the first member of a list that passes a test
abbrev pub first : {A : Type 0} → (A → Bool) → List A → Option A
first t [] = None
first t (x ∷ xs) = cond (t x) (Some x) (first t xs)

-- go on with what is there
abbrev pub and_then : {A B : Type 0} → Option A → (A → Option B) → Option B
and_then None f = None
and_then (Some x) f = f x

-- the first member of a list that costs the least
abbrev pub cheapest : {A : Type 0} → (A → Option ℕ) → List A → Option A
cheapest f xs = and_then (over f xs) (λ m. first (λ x. hits m (f x)) xs)

-- a list for each member of a list, one after the other
abbrev pub joined : {A B : Type 0} → (A → List B) → List A → List B
joined f [] = []
joined f (x ∷ xs) = f x ++ joined f xs

abbrev pub Among : {A : Type 0} → A → List A → Type 0
Among x [] = ⊥
Among x (y ∷ ys) = (x ≡ y) ⊎ Among x ys

abbrev pub Sooner : {A : Type 0} → A → A → List A → Type 0
Sooner x y [] = ⊥
Sooner x y (z ∷ zs) = (x ≡ z) ⊎ ((y ≢ z) × Sooner x y zs)

-- of those that Is holds of, b is one, none costs less, and of those that cost as much it comes first
pub record Best {B : Type 0} (Is : B → Type 0) (cost : B → ℕ) (Before : B → B → Type 0) (b : B) : Type 0 where
  pub is : Is b
  pub least : (d : B) → Is d → cost b ≤ cost d
  pub first : (d : B) → Is d → cost d ≡ cost b → Before b d

-- the numbers that C holds of at some k below n
abbrev pub Below : (ℕ → ℕ → Type 0) → ℕ → ℕ → Type 0
Below C n v = (k : ℕ) × (k < n) × C k v

-- the number of a list at a place; the numbers of a list
abbrev pub At : List ℕ → ℕ → ℕ → Type 0
At xs i v = v ≡ slice_index xs i

abbrev pub Entry : List ℕ → ℕ → Type 0
Entry xs = Below (At xs) (length xs)

-- below n, i is the first place at which f is the least
abbrev pub FirstBelow : (ℕ → ℕ) → ℕ → ℕ → Type 0
FirstBelow f n i = (i < n) × ((j : ℕ) → j < n → f i ≤ f j) × ((j : ℕ) → j < i → f i < f j)

-- the first place of the least number of a list; there is none where the list is empty
abbrev pub FirstLeast : List ℕ → Option ℕ → Type 0
FirstLeast xs None = length xs ≡ 0
FirstLeast xs (Some i) = FirstBelow (slice_index xs) (length xs) i
