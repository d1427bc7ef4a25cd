-- The book that is built in, which is `books/all.book`.
use Rattle.std.specs.Prelude.{[], ◌∷◌}
use Rattle.taps.specs.Readings.{Book}
use Rattle.taps.specs.Worked.{kind}

abbrev pub built_in : Book
built_in =
    record {
      kinds = kind 12 0 ∷ kind 6 180 ∷ kind 24 300 ∷ kind 18 720 ∷ kind 3 180 ∷ kind 4 180 ∷ kind 9 600 ∷ kind 8 540 ∷ kind 36 1020 ∷ [];
      tempi = 380 ∷ 395 ∷ 410 ∷ 425 ∷ 440 ∷ 460 ∷ 480 ∷ 500 ∷ 520 ∷ 540 ∷ 560 ∷ 580 ∷ 600 ∷ 625 ∷ 650 ∷ 675 ∷ 700 ∷ 725 ∷ 750 ∷ 780 ∷ 810 ∷ 840 ∷ 875 ∷ 910 ∷ 945 ∷ 980 ∷ 1020 ∷ 1060 ∷ 1100 ∷ 1150 ∷ 1200 ∷ [];
      change = 13;
    }
