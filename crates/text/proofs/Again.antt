-- A reading that was printed, read again: it is no worse, and so the best stays the best. Assumes nothing.
use Rattle.std.proofs.Common.{◌≡◌, ℕ, suc, ◌+◌, ◌-◌, ◌*◌, ◌≤◌, true, false, ◌&&◌, eqb, ltb, List, [], ◌∷◌, ◌++◌, length, map, Some, None, Ok, refl, sym, ap, ◌∙◌, append-nil, append_assoc, arith}
use Rattle.std.specs.Prelude.{codes, decimal, bytes_eq}
use Rattle.std.specs.List.{flat_map}
use Rattle.std.proofs.lemmas.Bool.{and_from, and_parts, cond-false, false_from_ne_true, lt-ltb, ltb-true}
use Rattle.std.proofs.lemmas.Bool.Decides.{nat_tests}
use Rattle.std.proofs.lemmas.List.{length-append}
use Rattle.std.proofs.lemmas.Slice.Eq.{bytes_eq-Decides}
use Rattle.taps.specs.Readings.{Book, Read, kind_at, tempo_at, in_book, apart, pick, costs, all_cost, reading}
use Rattle.taps.specs.Promise.{GoodBook}
use Rattle.statements.specs.Statements.{Least}
use Rattle.statements.proofs.Whole.{least_stands}
use Rattle.text.specs.Lines.{note_text, reading_text}
use Rattle.text.specs.Laws.{ReadingsRead, BestRead}
use Rattle.text.specs.Notes.{and_then, note_in, notes_in, reading_in, reading_of_tokens}
use Rattle.text.proofs.Notes.{note_first}
use Rattle.text.proofs.Printed.{Alike, note_is, read_again, tokens_again}

-- read by read
abbrev AllAlike : Book → List Read → List Read → Type 0
AllAlike b [] [] = Unit {0}
AllAlike b [] (s ∷ ss) = ⊥
AllAlike b (r ∷ rs) [] = ⊥
AllAlike b (r ∷ rs) (s ∷ ss) = Alike b r s × AllAlike b rs ss

notes_again : (b : Book) (rs : List Read) → GoodBook b → in_book b rs ≡ true →
    (ss : List Read) × AllAlike b rs ss × ((done : List Read) → length done + length rs ≤ 255 → notes_in b done (map (note_text b) rs) ≡ Ok (done ++ ss))
unfolding in_book
notes_again b [] good i = ([], tt, λ done h. ap Ok (sym (append-nil done)))
notes_again b (r ∷ rs) good i =
    let p = and_parts (ltb r.kind (length b.kinds) && ltb r.tempo (length b.tempi)) (in_book b rs) i in
    let q = and_parts (ltb r.kind (length b.kinds)) (ltb r.tempo (length b.tempi)) p.0 in
    let kind = ltb-true r.kind (length b.kinds) q.0 in
    let tempo = ltb-true r.tempo (length b.tempi) q.1 in
    let s = read_again b r good kind tempo in
    let others = notes_again b rs good p.1 in (
      s.0 ∷ others.0,
      (s.2, others.1),
      λ done h.
          let room : length (done ++ s.0 ∷ []) + length rs ≤ 255 = omega (arith, h, length-append done (s.0 ∷ [])) in
          note_first b done (note_text b r) (map (note_text b) rs) (omega (arith, h))
          ∙ ap (and_then (λ x. notes_in b (done ++ x ∷ []) (map (note_text b) rs))) (s.1 (length done))
          ∙ others.2 (done ++ s.0 ∷ []) room
          ∙ ap Ok (append_assoc done (s.0 ∷ []) others.0),
    )

-- a note is not the word `none`
not_none : (b : Book) (r : Read) → GoodBook b → bytes_eq (note_text b r) (codes "none") ≡ false
not_none b r good =
    false_from_ne_true _
    (λ e.
    let same : note_text b r ≡ codes "none" = (bytes_eq-Decides (note_text b r) (codes "none")).0 e in
    let bad : None ≡ Some ((kind_at b r.kind).ticks, tempo_at b r.tempo) = ap note_in (sym same) ∙ note_is b r good in
    cc)

first_not_none : (b : Book) (w : List ℕ) (ws : List (List ℕ)) → bytes_eq w (codes "none") ≡ false → reading_of_tokens b (w ∷ ws) ≡ notes_in b [] (w ∷ ws)
first_not_none b w [] e = cond-false (bytes_eq w (codes "none")) (Ok []) (notes_in b [] (w ∷ [])) e
first_not_none b w (u ∷ us) e = refl

reading_again : (b : Book) (rs : List Read) → GoodBook b → in_book b rs ≡ true → length rs ≤ 255 → (ss : List Read) × (reading_in b (reading_text b rs) ≡ Ok ss) × AllAlike b rs ss
reading_again b [] good i few = ([], refl, tt)
reading_again b (r ∷ rs) good i few =
    let again = notes_again b (r ∷ rs) good i in
    (again.0, ap (reading_of_tokens b) (tokens_again b r rs good) ∙ first_not_none b (note_text b r) (map (note_text b) rs) (not_none b r good) ∙ again.2 [] (omega (arith, few)), again.1)

-- what is alike read by read is no worse
alike_count : (b : Book) (rs ss : List Read) → AllAlike b rs ss → length ss ≡ length rs
alike_count b [] [] a = refl
alike_count b [] (s ∷ ss) a = absurd a
alike_count b (r ∷ rs) [] a = absurd a
alike_count b (r ∷ rs) (s ∷ ss) a = ap suc (alike_count b rs ss a.1)

alike_within : (b : Book) (rs ss : List Read) → AllAlike b rs ss → in_book b ss ≡ true
unfolding in_book
alike_within b [] [] a = refl
alike_within b [] (s ∷ ss) a = absurd a
alike_within b (r ∷ rs) [] a = absurd a
alike_within b (r ∷ rs) (s ∷ ss) a = and_from _ _ (and_from _ _ (lt-ltb _ _ a.0.kind) (lt-ltb _ _ a.0.tempo)) (alike_within b rs ss a.1)

note_alike : (b : Book) (r s : Read) → Alike b r s → note_text b s ≡ note_text b r
note_alike b r s a = ap (λ n. decimal n ++ (codes "@" ++ decimal (tempo_at b s.tempo))) a.ticks ∙ ap (λ n. decimal (kind_at b r.kind).ticks ++ (codes "@" ++ decimal n)) a.beat

behind_alike : (b : Book) (rs ss : List Read) → AllAlike b rs ss → flat_map (λ q. codes " " ++ note_text b q) ss ≡ flat_map (λ q. codes " " ++ note_text b q) rs
behind_alike b [] [] a = refl
behind_alike b [] (s ∷ ss) a = absurd a
behind_alike b (r ∷ rs) [] a = absurd a
behind_alike b (r ∷ rs) (s ∷ ss) a =
    let note = note_alike b r s a.0 in
    let others = behind_alike b rs ss a.1 in
    ap (λ x. (codes " " ++ x) ++ flat_map (λ q. codes " " ++ note_text b q) ss) note ∙ ap (λ x. (codes " " ++ note_text b r) ++ x) others

text_alike : (b : Book) (rs ss : List Read) → AllAlike b rs ss → reading_text b ss ≡ reading_text b rs
text_alike b [] [] a = refl
text_alike b [] (s ∷ ss) a = absurd a
text_alike b (r ∷ rs) [] a = absurd a
text_alike b (r ∷ rs) (s ∷ ss) a =
    ap (λ x. x ++ flat_map (λ q. codes " " ++ note_text b q) ss) (note_alike b r s a.0) ∙ ap (λ x. note_text b r ++ x) (behind_alike b rs ss a.1)

-- two that may be the tempo before: none, or the same tempo
abbrev SameBefore : Book → ℕ → ℕ → Type 0
SameBefore b u v = (eqb u 0 ≡ eqb v 0) × (tempo_at b (u - 1) ≡ tempo_at b (v - 1))

-- a gap costs no more
gap_alike : (b : Book) (u v g : ℕ) (r s : Read) → SameBefore b u v → Alike b r s → costs b u g s ≤ costs b v g r
gap_alike b u v g r s same a =
    let off : apart (12 * g) ((kind_at b s.kind).ticks * tempo_at b s.tempo) ≡ apart (12 * g) ((kind_at b r.kind).ticks * tempo_at b r.tempo) =
    ap (λ n. apart (12 * g) (n * tempo_at b s.tempo)) a.ticks ∙ ap (λ n. apart (12 * g) ((kind_at b r.kind).ticks * n)) a.beat in
    let change : pick (eqb u 0) 0 (b.change * apart (tempo_at b (u - 1)) (tempo_at b s.tempo)) ≡ pick (eqb v 0) 0 (b.change * apart (tempo_at b (v - 1)) (tempo_at b r.tempo)) =
    ap (λ t. pick t 0 (b.change * apart (tempo_at b (u - 1)) (tempo_at b s.tempo))) same.0
    ∙ ap (λ n. pick (eqb v 0) 0 (b.change * apart n (tempo_at b s.tempo))) same.1
    ∙ ap (λ n. pick (eqb v 0) 0 (b.change * apart (tempo_at b (v - 1)) n)) a.beat in
    let sum = λ (x y w z c d : ℕ) (e : x ≡ y) (h : w ≤ z) (f : c ≡ d). (let k : (x + w) + c ≤ (y + z) + d = omega (arith, e, h, f) in k) in
    sum _ _ _ _ _ _ off a.weight change

next_before : (t : ℕ) → suc t - 1 ≡ t
next_before t = omega arith

cost_alike : (b : Book) (rs ss : List Read) → AllAlike b rs ss → (u v : ℕ) (gs : List ℕ) → SameBefore b u v → all_cost b u gs ss ≤ all_cost b v gs rs
unfolding all_cost
cost_alike b [] [] a u v [] same = omega arith
cost_alike b [] [] a u v (g ∷ gs) same = omega arith
cost_alike b [] (s ∷ ss) a u v gs same = absurd a
cost_alike b (r ∷ rs) [] a u v gs same = absurd a
cost_alike b (r ∷ rs) (s ∷ ss) a u v [] same = omega arith
cost_alike b (r ∷ rs) (s ∷ ss) a u v (g ∷ gs) same =
    let here = gap_alike b u v g r s same a.0 in
    let next : SameBefore b (suc s.tempo) (suc r.tempo) = (grind (arith, nat_tests), ap (tempo_at b) (next_before s.tempo) ∙ a.0.beat ∙ sym (ap (tempo_at b) (next_before r.tempo))) in
    omega (arith, here, cost_alike b rs ss a.1 (suc s.tempo) (suc r.tempo) gs next)

pub readings_read : ReadingsRead
readings_read b rs good i few =
    let again = reading_again b rs good i few in
    let a = again.2 in
    (again.0, again.1, record { count = alike_count b rs again.0 a; within = alike_within b rs again.0 a; text = text_alike b rs again.0 a; costs = λ before gs. cost_alike b rs again.0 a before before gs (refl, refl) })

pub best_read : BestRead
unfolding Least
best_read b gs good short few =
    let told = least_stands.0 b gs good short few in
    let again = readings_read b (reading b 0 gs) good told.1 (omega (arith, told.0)) in
    let no_worse = again.2 in
    let best = least_stands.1 b gs again.0 (no_worse.count ∙ told.0) no_worse.within in
    let no_more = no_worse.costs 0 gs in
    (again.0, again.1, no_worse.count ∙ told.0, omega (arith, best, no_more, told.2))
