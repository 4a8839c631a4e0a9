-- What a framer owes that wants more bytes.
use Rattle.std.proofs.Common.{◌≡◌, ℕ, Bool, true, false, nat_lt, List, [], ◌∷◌, length, refl, ap, ◌∙◌, arith, sym}
use borrow.Author.Tests.{ltb-false}
use Rattle.pads_frame.specs.declared.discipline.Discipline.{Discipline}
use Rattle.pads_frame.specs.Cutting.{cuts}
use Rattle.pads_frame.specs.Next.{Waits}
use Rattle.pads_frame.specs.State.{State, MayCome, closes_in, rest}
use Rattle.pads_frame.proofs.Passing.{none_owed}
use Rattle.pads_drive.specs.Driving.{IsWaiting}

some-closes : (b : ℕ) (bytes : List ℕ) → nat_lt 0 (length (b ∷ bytes)) ≡ false → ⊥
some-closes b bytes h = omega (arith, ltb-false 0 (length (b ∷ bytes)) h)

none-closes : (d : Discipline) (max : ℕ) (ended : Bool) (at : ℕ) (bytes : List ℕ) → closes_in d max bytes ended ≡ false → cuts d max ended at 0 bytes ≡ []
unfolding cuts
none-closes d max ended at [] h = refl
none-closes d max true at (b ∷ bytes) h = absurd (some-closes b bytes h)
none-closes d max false at (b ∷ bytes) h = rw h refl

pub waiting : (old new : State) → Waits old new → IsWaiting new
waiting old new w = record {
  none = w.owed new.ended [] ∙ ap (λ ended. rest ended old []) w.input.ended ∙ none_owed old w.none;
  free = w.free;
}

-- what may come depends on the end of the input alone
pub same_end : (a b : State) → b.ended ≡ a.ended → (ended : Bool) (more : List ℕ) → MayCome a ended more → MayCome b ended more
same_end a b e ended more may h = may (sym e ∙ h)
