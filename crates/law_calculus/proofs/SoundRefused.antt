-- Descriptors that aren't sound, node by node: a wrong count, at the top or below; a class that its count
-- contradicts; kids that overlap, that are out of order, or that don't lie in the node's span.
use Rattle.std.proofs.Common.{◌≡◌, subst, arith, ℕ, ◌≤◌, List, [], ◌∷◌, Option, None, Some}
use Rattle.pads_value.specs.CauseCount.{causes}
use Rattle.pads_value.specs.declared.cause.Cause.{Cause}
use Rattle.pads_value.specs.declared.cause.Cause.TheVariants as cause
use Rattle.pads_value.specs.declared.descriptor.Class.{Class}
use Rattle.pads_value.specs.declared.descriptor.Class.TheVariants as class
use Rattle.pads_value.specs.declared.descriptor.Pd.{Pd, Pd-F, out-Pd, roll-Pd, out-roll-Pd, every-Pd, every_here-Pd}
use Rattle.law_calculus.specs.Soundness.{CountsHere, SpansHere, CountsAreSound, SpansAreSound}
use Rattle.law_calculus.proofs.SoundNodes.{AllEvery, every-kids, causes-roll}

abbrev node : ℕ → Class → Option Cause → ℕ → ℕ → List Pd → Pd-F Pd
node nerr class cause begin end kids = record { nerr = nerr; class = class; cause = cause; span = record { begin = begin; end = end }; kids = kids }

at_top : (Q : Pd-F Pd → Type 0) (layer : Pd-F Pd) → every-Pd Q (roll-Pd layer) → Q layer
at_top Q layer every = subst Q (out-roll-Pd layer) (every_here-Pd Q (roll-Pd layer) every)

below : (Q : Pd-F Pd → Type 0) (layer : Pd-F Pd) → every-Pd Q (roll-Pd layer) → AllEvery Q layer.kids
below Q layer every = subst (λ (layer : Pd-F Pd). AllEvery Q layer.kids) (out-roll-Pd layer) (every-kids Q (roll-Pd layer) every)

-- one cause, counted twice
abbrev counted_twice : Pd-F Pd
counted_twice = node 2 class.Err (Some cause.Range) 0 3 []

refuses-wrong_count : CountsAreSound (roll-Pd counted_twice) → ⊥
refuses-wrong_count sound =
    let one : causes (roll-Pd counted_twice) ≡ 1 = causes-roll counted_twice in
    absurd (omega (arith, (at_top CountsHere counted_twice sound).all_causes))

-- the same node below another
refuses-wrong_count_below : CountsAreSound (roll-Pd (node 1 class.Err None 0 3 (roll-Pd counted_twice ∷ []))) → ⊥
refuses-wrong_count_below sound =
    refuses-wrong_count (below CountsHere (node 1 class.Err None 0 3 (roll-Pd counted_twice ∷ [])) sound).0

-- a class without a cause below it
refuses-class : CountsAreSound (roll-Pd (node 0 class.Err None 0 3 [])) → ⊥
refuses-class sound = let same : class.Err ≡ class.Ok = (at_top CountsHere (node 0 class.Err None 0 3 []) sound).none_is_ok.0 (omega arith) in cc

-- a leaf over some bytes
abbrev leaf : ℕ → ℕ → Pd
leaf begin end = roll-Pd (node 0 class.Ok None begin end [])

leaf-begin : (begin end : ℕ) → (out-Pd (leaf begin end)).span.begin ≡ begin
leaf-begin begin end = simp out-roll-Pd

leaf-end : (begin end : ℕ) → (out-Pd (leaf begin end)).span.end ≡ end
leaf-end begin end = simp out-roll-Pd

-- two kids from 0 to `end` and from `begin` to 5, below a node from 0 to 5
abbrev pair : ℕ → ℕ → Pd-F Pd
pair end begin = node 0 class.Ok None 0 5 (leaf 0 end ∷ leaf begin 5 ∷ [])

-- what its spans say
pair-apart : (end begin : ℕ) → SpansAreSound (roll-Pd (pair end begin)) → end ≤ begin
pair-apart end begin sound =
    let here = at_top SpansHere (pair end begin) sound in
    omega (arith, here.2.0, leaf-end 0 end, leaf-begin begin 5)

refuses-overlap : SpansAreSound (roll-Pd (pair 3 2)) → ⊥
refuses-overlap sound = absurd (omega (arith, pair-apart 3 2 sound))

-- a kid that ends behind the node
refuses-longer_kid : SpansAreSound (roll-Pd (node 0 class.Ok None 0 5 (leaf 2 6 ∷ []))) → ⊥
refuses-longer_kid sound =
    let here = at_top SpansHere (node 0 class.Ok None 0 5 (leaf 2 6 ∷ [])) sound in
    absurd (omega (arith, here.2, leaf-end 2 6))
