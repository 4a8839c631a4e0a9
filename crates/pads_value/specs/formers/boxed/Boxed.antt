-- How a `Boxed` stores what it holds, so that a type may reach itself through it: as that one value.
-- The field is a `Box`.
use mathlib.Core.Path.{refl}
use mathlib.Core.Former.{Former, this, const, pair, via}
use base.Stored.{gnil}
use base.Fml.{ftrue}
use denote.RattleType.{RattleType}
use denote.Memory.{part_of}
use denote.RawPtr.{Ptr}
use denote.Sharing.{nothing}
use denote.HoleLaws.{Alike}
use denote.HolePlaces.{Recodes, struct_places, laid, one_value}
use denote.Hole.Fix.{over}
use denote.Param.Weighed.{Weighed}
use denote.Model.Placed.{view_places}
use Rattle.std.specs.declared.boxed.Box.{Box}
use Rattle.std.specs.contracts.boxed.Box as box
use Rattle.std.specs.declared.alloc.Global.{Global}
use Rattle.std.specs.contracts.alloc.Global as heap
use Rattle.std.specs.contracts.impls.GlobalAllocator.TheImpl.{ghosts}
use Rattle.pads_value.specs.declared.boxed.Boxed.TheInside.{Inside}
use Rattle.pads_value.specs.declared.boxed.Boxed.TheView.{view, invariant}
use Rattle.pads_value.specs.contracts.boxed.Boxed as contract
use Rattle.pads_value.specs.contracts.boxed.Boxed.TheInside as fields

-- The one value that it holds is what contracts see.
abbrev pub the_former : Former {0} → Former {0}
the_former value = value

abbrev pub the_weighed : {value : Former {0}} → Weighed value → Weighed (the_former value)
the_weighed measure = measure

-- The field holds the same value, beside its place in memory.
abbrev in_fields : Former {0}
in_fields = via (pair (const (Ptr × Global)) this) Inside (λ X inside. ((inside.inner.ptr, inside.inner.alloc), inside.inner.value))
    (λ X held. record { inner = record { ptr = held.0.0; alloc = held.0.1; value = held.1 } }) (λ X inside. refl) (λ X held. refl)

abbrev holding : {X Y : Type 0} → Box X Global → Y → Box Y Global
holding old value = record { ptr = old.ptr; alloc = old.alloc; value = value }

abbrev box_of : RattleType → RattleType
box_of R = box.the_row R heap.the_row ghosts

module _ (R S : RattleType) (h : R.Denot → S.Denot) where
  box_places : Alike R S h → Alike (box_of R) (box_of S) (λ old. holding old (h old.value))
  unfolding part_of
  box_places alike = record {
    mir_same = λ i. (box_of (one_value R (alike.mir_same i) (λ _. ftrue) (λ _ _. nothing) gnil)).mir;
    own_same = λ old i. (box_of (one_value R (alike.mir_same i) (alike.own_same old.value i) (alike.shr_same old.value i) gnil)).own_val (holding old tt);
    shr_same = λ old i. (box_of (one_value R (alike.mir_same i) (alike.own_same old.value i) (alike.shr_same old.value i) gnil)).shr_at (holding old tt);
  }

  -- It owns and lends what its value owns and lends.
  pub the_places : Alike R S h → Alike (contract.the_row R) (contract.the_row S) ((the_former this).map R.Denot S.Denot h)
  the_places alike = view_places in_fields this view (λ X Y k inside. refl) (λ X inside. refl) R.Denot S.Denot h
      (contract.the_row R).coded (contract.the_row S).coded (invariant R.Denot) (invariant S.Denot)
      (λ inside p q. refl) (λ inside p q. refl) (λ inside e. tt) (λ inside e. tt) (over (fields.the_row R)) (over (fields.the_row S))
      (struct_places (fields.the_type R) (fields.the_type S) ((λ old. holding old (h old.value)), tt) _ (λ inside. refl) refl
      (laid _ _ _ (box_places alike), tt))

  pub the_codes_placed : Recodes R S h → Recodes (contract.the_row R) (contract.the_row S) ((the_former this).map R.Denot S.Denot h)
  the_codes_placed recoded value = recoded value
