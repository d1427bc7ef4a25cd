-- Values that are found where a test holds, and what they stand for.
use Rattle.std.proofs.Common.{◌≡◌, ℕ, Bool, true, false, ◌⊎◌, List, Some, None, Option, arith}
use Rattle.std.specs.Option.{option_map}
use Rattle.taps.specs.Readings.{pick}

-- what is found stands for what was asked, and it was found where the test holds
pub found_is : {X : Type 0} (t : Bool) (x y : X) → Some x ≡ pick t (Some y) None → x ≡ y
found_is t x y e = grind arith

pub found_test : {X : Type 0} (t : Bool) (x y : X) → Some x ≡ pick t (Some y) None → t ≡ true
found_test t x y e = grind arith

pub mapped_found : {A X : Type 0} (m : A → X) (t : Bool) (a : A) → option_map m (pick t (Some a) None) ≡ pick t (Some (m a)) None
mapped_found m t a = grind arith

-- which way a test went
pub ways : {A : Type 0} (t : Bool) (x y z : A) → pick t x y ≡ z → ((t ≡ true) × (x ≡ z)) ⊎ ((t ≡ false) × (y ≡ z))
ways t x y z e = grind arith

-- one reader for what two are written as
pub same_from_bytes : {A : Type 0} (read : List ℕ → Option A) (write : A → List ℕ) (a b : A) → read (write a) ≡ Some a → read (write b) ≡ Some b → write a ≡ write b → a ≡ b
same_from_bytes read write a b p q e = cc
