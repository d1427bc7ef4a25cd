-- What is told of lines, one by one, and the memory after them. Assumes nothing.
use Rattle.std.proofs.Common.{◌≡◌, ℕ, suc, ◌+◌, ◌≤◌, List, [], ◌∷◌, ◌++◌, length, take, append-nil, append_assoc, Ok, Err, Result, IfErr, refl, sym, ap, ◌∙◌, subst, arith}
use Rattle.std.proofs.lemmas.List.{length-append, take_at}
use Rattle.taps.specs.Readings.{Book}
use Rattle.taps.specs.Calls as calls
use Rattle.taps.specs.Calls.{Answer, after, answer, answers, ran}
use Rattle.text.specs.Lines.{answer_text}
use Rattle.tokens.specs.Tokens.{lines_in}
use Rattle.session.specs.Session.{Came, taps_held}
use Rattle.lines.specs.Lines.{answers_text, call_at, calls_in}

-- what is told of the lines of a text from the number n on, by a desk that holds some taps
abbrev pub told_of : Book → ℕ → List ℕ → ℕ → List ℕ → List ℕ
told_of b most ts n text = answers_text b (answers b most ts (calls_in n (lines_in text)))

-- the first line is told of first
told_more : (b : Book) (most : ℕ) (ts : List ℕ) (n : ℕ) (text line behind : List ℕ) (told : List ℕ) → lines_in text ≡ line ∷ lines_in behind →
    (told ++ (answer_text b (answer b most ts (call_at n line)) ++ 10 ∷ [])) ++ told_of b most (after most ts (call_at n line)) (n + 1) behind ≡ told ++ told_of b most ts n text
unfolding answers
told_more b most ts n text line behind told split =
    append_assoc told (answer_text b (answer b most ts (call_at n line)) ++ 10 ∷ []) (told_of b most (after most ts (call_at n line)) (n + 1) behind)
    ∙ sym (ap (λ ls. told ++ answers_text b (answers b most ts (calls_in n ls))) split)

-- a desk with a book and a limit that are as they were, and are written in their own words
module _ (b book : Book) (most limit : ℕ) (same : book ≡ b) (still : limit ≡ most) (left left_new : List ℕ) (n : ℕ) (text line behind : List ℕ) (split : lines_in text ≡ line ∷ lines_in behind) where
  pub told_step : (told told_new : List ℕ) (reply : Answer) → told_new ≡ told ++ (answer_text b reply ++ 10 ∷ []) →
      reply ≡ answer book limit (taps_held book limit left) (call_at n line) → taps_held book limit left_new ≡ after limit (taps_held book limit left) (call_at n line) →
      told_new ++ told_of b most (taps_held b most left_new) (n + 1) behind ≡ told ++ told_of b most (taps_held b most left) n text
  told_step told told_new reply writes value taps =
      let call = call_at n line in
      let said : reply ≡ answer b most (taps_held b most left) call = value ∙ (λ i. answer (same i) (still i) (taps_held (same i) (still i) left) call) in
      let held : taps_held b most left_new ≡ after most (taps_held b most left) call = sym (λ i. taps_held (same i) (still i) left_new) ∙ taps ∙ (λ i. after (still i) (taps_held (same i) (still i) left) call) in
      (λ i. (writes ∙ (λ j. told ++ (answer_text b (said j) ++ 10 ∷ []))) i ++ told_of b most (held i) (n + 1) behind) ∙ told_more b most (taps_held b most left) n text line behind told split

pub told_none : (b : Book) (most : ℕ) (ts : List ℕ) (n : ℕ) → told_of b most ts n [] ≡ []
unfolding answers
told_none b most ts n = refl

-- a call for each line
pub length_calls : (n : ℕ) (ls : List (List ℕ)) → length (calls_in n ls) ≡ length ls
length_calls n [] = refl
length_calls n (l ∷ ls) = ap suc (length_calls (n + 1) ls)

-- some calls of all, of which those are left that the lines from the number n on are
module _ (b : Book) (most : ℕ) (left right : List ℕ) (all : List calls.Call) where
  pub record Done (n : ℕ) (text : List ℕ) (left_new right_new : List ℕ) : Type 0 where
    pub taken : List calls.Call
    pub count : length taken ≡ n
    pub others : taken ++ calls_in n (lines_in text) ≡ all
    pub came : (cs : List calls.Call) → Came b most cs left right → Came b most (cs ++ taken) left_new right_new

  pub done_more : (book : Book) (limit : ℕ) → book ≡ b → limit ≡ most → (n : ℕ) (text line behind left_old right_old left_new right_new : List ℕ) (reply : Answer) → lines_in text ≡ line ∷ lines_in behind →
      ((cs : List calls.Call) → Came book limit cs left_old right_old → (reply ≡ answer book limit (ran limit [] cs) (call_at n line)) × Came book limit (cs ++ call_at n line ∷ []) left_new right_new) →
      Done n text left_old right_old → Done (n + 1) behind left_new right_new
  done_more book limit same still n text line behind left_old right_old left_new right_new reply split more done =
      let both : (book, limit) ≡ (b, most) = λ i. (same i, still i) in
      record {
        taken = done.taken ++ call_at n line ∷ [];
        count = length-append done.taken (call_at n line ∷ []) ∙ ap (λ k. k + 1) done.count;
        others = append_assoc done.taken (call_at n line ∷ []) (calls_in (n + 1) (lines_in behind)) ∙ ap (λ ls. done.taken ++ calls_in n ls) (sym split) ∙ done.others;
        came = λ cs first.
            let before : Came book limit (cs ++ done.taken) left_old right_old = subst (λ (p : Book × ℕ). Came p.0 p.1 (cs ++ done.taken) left_old right_old) (sym both) (done.came cs first) in
            subst (λ ds. Came b most ds left_new right_new) (append_assoc cs done.taken (call_at n line ∷ []))
            (subst (λ (p : Book × ℕ). Came p.0 p.1 ((cs ++ done.taken) ++ call_at n line ∷ []) left_new right_new) both (more (cs ++ done.taken) before).1);
      }

  -- they are the first of all
  pub done_first : (n : ℕ) (text left_new right_new : List ℕ) → Done n text left_new right_new → (n ≤ length all) × ((cs : List calls.Call) → Came b most cs left right → Came b most (cs ++ take n all) left_new right_new)
  done_first n text left_new right_new done =
      let first : take n all ≡ done.taken = ap (take n) (sym done.others) ∙ take_at done.taken (calls_in n (lines_in text)) n done.count in (
        omega (arith, done.count, ap length done.others, length-append done.taken (calls_in n (lines_in text))),
        λ cs came. subst (λ ds. Came b most (cs ++ ds) left_new right_new) (sym first) (done.came cs came),
      )

  -- and all, where no line is left
  pub done_all : (n : ℕ) (left_new right_new : List ℕ) → Done n [] left_new right_new → (cs : List calls.Call) → Came b most cs left right → Came b most (cs ++ all) left_new right_new
  done_all n left_new right_new done cs first = subst (λ ds. Came b most (cs ++ ds) left_new right_new) (sym (append-nil done.taken) ∙ done.others) (done.came cs first)

-- of a result that was an error this holds, and nothing is said of another
pub if_err : {T E : Type 0} (r : Result T E) (P : Type 0) → P → IfErr r (λ _. P)
if_err (Ok x) P p = tt
if_err (Err e) P p = p
