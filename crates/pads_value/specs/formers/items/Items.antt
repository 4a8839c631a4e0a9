-- How an `Items` stores what it holds, so that a type may reach itself through it: as a list, the one
-- that contracts see. The fields are a `Vec`, whose own former says the rest.
use mathlib.Core.Path.{◌≡◌, refl, sym}
use mathlib.Core.List.{List, []}
use mathlib.Core.Former.{Former, this, list, via, children}
use base.Stored.{code_map}
use denote.RattleType.{RattleType}
use denote.HoleLaws.{Alike}
use denote.HolePlaces.{Recodes, struct_places, laid}
use denote.Hole.Carrier.{listed, list-listed}
use denote.Hole.Fix.{over}
use denote.Param.Weighed.{Weighed, w_list}
use denote.Model.Placed.{view_places}
use Rattle.std.specs.formers.vec.Vec as vec
use Rattle.std.specs.declared.alloc.Global.{Global}
use Rattle.std.specs.contracts.alloc.Global as heap
use Rattle.std.specs.contracts.impls.GlobalAllocator.TheImpl.{ghosts}
use Rattle.pads_value.specs.declared.items.Items.TheInside.{Inside}
use Rattle.pads_value.specs.declared.items.Items.TheView.{view, invariant}
use Rattle.pads_value.specs.contracts.items.Items as contract
use Rattle.pads_value.specs.contracts.items.Items.TheInside as fields

-- The values that it holds are the items of the list.
abbrev pub the_former : Former {0} → Former {0}
the_former item = list item

abbrev pub the_weighed : {item : Former {0}} → Weighed item → Weighed (the_former item)
the_weighed measure = w_list measure

abbrev pub the_empty : List ⊥
the_empty = []

abbrev pub the_items : (X : Type 0) → List X → List X
the_items X items = items

pub the_items_listed : (X : Type 0) (items : List X) → listed _ (children (the_former this) X items) ≡ the_items X items
the_items_listed X items = list-listed X items

-- The fields hold the same values: one `Vec` of them.
abbrev in_fields : Former {0}
in_fields = via (vec.the_former this Global) Inside (λ X inside. inside.vec) (λ X items. record { vec = items }) (λ X inside. refl) (λ X items. refl)

module _ (R S : RattleType) (h : R.Denot → S.Denot) where
  -- It owns and lends what its items own and lend, one by one.
  pub the_places : Alike R S h → Alike (contract.the_row R) (contract.the_row S) ((the_former this).map R.Denot S.Denot h)
  the_places alike = view_places in_fields (list this) view (λ X Y k inside. refl) (λ X inside. refl) R.Denot S.Denot h
      (contract.the_row R).coded (contract.the_row S).coded (invariant R.Denot) (invariant S.Denot)
      (λ inside p q. refl) (λ inside p q. refl) (λ inside e. tt) (λ inside e. tt) (over (fields.the_row R)) (over (fields.the_row S))
      (struct_places (fields.the_type R) (fields.the_type S) (vec.mapped h, tt) _ (λ inside. refl) refl
      (laid _ _ _ (vec.the_places heap.the_row ghosts R S h alike), tt))

  pub the_codes_placed : Recodes R S h → Recodes (contract.the_row R) (contract.the_row S) ((the_former this).map R.Denot S.Denot h)
  the_codes_placed recoded items = sym (code_map R.coded.code S.coded.code h (λ x. sym (recoded x)) items)
