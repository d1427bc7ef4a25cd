-- What is picked by a test. Assumes nothing.
use Rattle.std.proofs.Common.{◌≡◌, Bool, true, false, refl, ap}
use Rattle.taps.specs.Readings.{pick}

pub pick_both : {A : Type 0} (P : A → Type 0) (t : Bool) (x y : A) → (t ≡ true → P x) → (t ≡ false → P y) → P (pick t x y)
pick_both P true x y p q = p refl
pick_both P false x y p q = q refl

pub picked : {A : Type 0} (t : Bool) (x y : A) → t ≡ true → pick t x y ≡ x
picked t x y is = ap (λ u. pick u x y) is
