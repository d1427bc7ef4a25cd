-- A reader whose states are the numbers below some n. Assumes nothing.
use Rattle.std.proofs.Common.{ℕ, ◌<◌, eqb, refl, arith}
use Rattle.std.specs.List.{range_with_len}
use Rattle.std.proofs.lemmas.Bool.{eqb-true, eq-eqb}
use Rattle.least.specs.Minima.{Among}
use Rattle.least.specs.Readers.{Reader, States}
use Rattle.least.proofs.Lists.{numbers_have}

abbrev pub numbered : {G C : Type 0} (r : Reader G ℕ C) (n : ℕ) → ((s : ℕ) → Among s r.starts → s < n) → ((s : ℕ) (g : G) (c : C) → Among c (r.choices s g) → r.next s g c < n) → States r
numbered r n starts next =
    record {
      all = range_with_len 0 n;
      same = eqb;
      same_is = eqb-true;
      is_same = λ s. eq-eqb s s refl;
      starts_in = λ s a. numbers_have s 0 n (omega arith) (omega (arith, starts s a));
      next_in = λ s g c a i. numbers_have (r.next s g c) 0 n (omega arith) (omega (arith, next s g c i));
    }
