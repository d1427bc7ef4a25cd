-- A line is heard as the call that it is, or as one that can't be read. Assumes nothing.
use Rattle.std.proofs.Common.{◌≡◌, ℕ, ◌<◌, List, Some, None, Option, refl, sym, ap, ◌∙◌, arith}
use Rattle.std.specs.Option.{option_map, unwrap_or}
use Rattle.taps.specs.Readings.{Book}
use Rattle.taps.specs.Calls as calls
use Rattle.taps.specs.Calls.{after, answer, garbled, refused, turned}
use Rattle.taps.specs.Values.{call_of}
use Rattle.taps.specs.declared.call.Call.{Call}
use Rattle.text.specs.Lines.{call_in}
use Rattle.lines.specs.Lines.{call_at}

-- the call that was read
pub heard : (n : ℕ) (line : List ℕ) (r : Option Call) (call : Call) → option_map call_of r ≡ call_in line → r ≡ Some call → call_at n line ≡ call_of call
heard n line r call reads is = ap (λ o. unwrap_or o (garbled n)) (sym reads ∙ ap (option_map call_of) is)

-- none was
pub unheard : (n : ℕ) (line : List ℕ) (r : Option Call) → option_map call_of r ≡ call_in line → r ≡ None → call_at n line ≡ garbled n
unheard n line r reads is = ap (λ o. unwrap_or o (garbled n)) (sym reads ∙ ap (option_map call_of) is)

-- what can't be read is refused, and leaves the taps as they are
pub after_unheard : (most : ℕ) (ts : List ℕ) (n : ℕ) → after most ts (garbled n) ≡ ts
unfolding turned
after_unheard most ts n = refl

pub answer_unheard : (b : Book) (most : ℕ) (ts : List ℕ) (n : ℕ) → answer b most ts (garbled n) ≡ refused 1 n
unfolding turned calls.place
answer_unheard b most ts n = refl

pub turned_unheard : (most : ℕ) (ts : List ℕ) (n : ℕ) → 0 < turned most ts (garbled n)
unfolding turned
turned_unheard most ts n = omega arith
