-- Turns of an array: where they end, and what one more unrolling says.
use Rattle.std.proofs.Common.{◌≡◌, ℕ, suc, ◌+◌, ◌≤◌, Bool, true, false, ◌&&◌, nat_eq, if◌then◌else◌, List, [], ◌∷◌, ◌++◌, length, Option, Some, None, refl, arith, length-append}
use Rattle.std.proofs.lemmas.Grind.{common_steps}
use Rattle.pads_value.specs.declared.cause.Cause.TheVariants as cause
use Rattle.pads_value.specs.declared.descriptor.Pd.{out-Pd}
use Rattle.pads_value.specs.declared.value.Val.{Val}
use Rattle.pads_expr.specs.Value.{Pairs}
use Rattle.pads_calc.specs.declared.reading.Reading.{Reading}
use Rattle.pads_calc.specs.declared.turn.Ending.TheVariants as ending
use Rattle.pads_calc.specs.declared.turn.Turn.TheVariants as turn
use Rattle.pads_calc.specs.Arrays.{SeqReader, is_fail_class, turn_of, turn_from, element_at, ending_at, elements, unless_ended, and_then, is_empty, is_full, is_last, is_stopped, below_size}
use Rattle.pads_calc.specs.Leaves.{at_end}
use Rattle.pads_calc.specs.Places.{EndsWithin, TurnsWithin}
use Rattle.pads_calc.proofs.Cases.{pick}

pub turn-within : (bytes : List ℕ) (is_first : Bool) (j begin : ℕ) (r : Reading) → EndsWithin bytes j r → TurnsWithin bytes is_first j (turn_of is_first j begin r)
turn-within bytes true j begin r within =
    pick (TurnsWithin bytes true j) (is_fail_class (out-Pd r.pd).class && nat_eq r.place begin) (turn.Undone cause.ArrayElem) (turn.Kept r)
    (λ _. tt) (λ _. (within, λ e. cc))
turn-within bytes false j begin r within =
    pick (TurnsWithin bytes false j) (is_fail_class (out-Pd r.pd).class && nat_eq r.place begin) (turn.Undone cause.ArrayElem)
    (if nat_eq r.place j then turn.Undone cause.ArrayStall else turn.Kept r)
    (λ _. tt)
    (λ _. pick (TurnsWithin bytes false j) (nat_eq r.place j) (turn.Undone cause.ArrayStall) (turn.Kept r) (λ _. tt)
    (λ ne. (within, λ e. grind (arith, common_steps, within, ne))))

-- one turn more
pub elements-next : (bytes : List ℕ) (s : SeqReader) (size : Option ℕ) (env : Pairs) (turns : ℕ) (before : List Val) (j : ℕ) →
    elements bytes s size env (suc turns) before j ≡
    unless_ended (ending_at bytes s size before env j)
    (and_then (turn_from s (is_empty before) env j) (λ r. elements bytes s size env turns (before ++ r.value ∷ []) r.place))
unfolding elements
elements-next bytes s size env turns before j = refl

-- the endings in their order
module _ (bytes : List ℕ) (s : SeqReader) (size : Option ℕ) (before : List Val) (env : Pairs) (j : ℕ) where
  pub ending-full : is_full size (length before) ≡ true → ending_at bytes s size before env j ≡ ending.Ends None
  unfolding ending_at
  ending-full full = rw full refl

  pub ending-last : is_full size (length before) ≡ false → is_last s.last s.elts before env ≡ true → ending_at bytes s size before env j ≡ ending.Ends None
  unfolding ending_at
  ending-last full last = rw (full, last) refl

  pub ending-stop : is_full size (length before) ≡ false → is_last s.last s.elts before env ≡ false → is_stopped s.stop env j ≡ true →
      ending_at bytes s size before env j ≡ ending.Ends (below_size size)
  unfolding ending_at
  ending-stop full last stop = rw (full, last, stop) refl

  pub ending-over : is_full size (length before) ≡ false → is_last s.last s.elts before env ≡ false → is_stopped s.stop env j ≡ false → at_end bytes j ≡ true →
      ending_at bytes s size before env j ≡ ending.Ends (below_size size)
  unfolding ending_at
  ending-over full last stop over = rw (full, last, stop, over) refl

  pub ending-on : is_full size (length before) ≡ false → is_last s.last s.elts before env ≡ false → is_stopped s.stop env j ≡ false → at_end bytes j ≡ false →
      ending_at bytes s size before env j ≡ ending.GoesOn
  unfolding ending_at
  ending-on full last stop over = rw (full, last, stop, over) refl

-- a turn, by where its element begins
module _ (s : SeqReader) (is_first : Bool) (env : Pairs) (j : ℕ) where
  pub turn-without : element_at s.sep is_first env j ≡ None → turn_from s is_first env j ≡ turn.Undone cause.ArraySep
  unfolding turn_from
  turn-without none = rw none refl

  pub turn-with : (begin : ℕ) → element_at s.sep is_first env j ≡ Some begin → turn_from s is_first env j ≡ turn_of is_first j begin (s.elem env begin)
  unfolding turn_from
  turn-with begin there = rw there refl

-- one element more, and one byte more from the second on
pub turns-room : (bytes : List ℕ) (i : ℕ) (before : List Val) (j : ℕ) (r : Reading) → i ≤ j → length before + i ≤ j + 1 → TurnsWithin bytes (is_empty before) j (turn.Kept r) →
    length (before ++ r.value ∷ []) + i ≤ r.place + 1
turns-room bytes i [] j r from room within = omega (arith, from, within.0.0)
turns-room bytes i (value ∷ before) j r from room within =
    omega (arith, room, within.1 refl, length-append (value ∷ before) (r.value ∷ []))
