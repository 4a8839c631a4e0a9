-- Where everything is checked and kept, nothing is changed.
use Rattle.std.proofs.Common.{◌≡◌, ◌∙◌, sym, ap, refl, Bool, true, false, ◌&&◌, List, [], ◌∷◌, map}
use Rattle.pads_calc.specs.declared.decl.Decl.{Decl}
use Rattle.pads_module.specs.Modules.{Contents}
use Rattle.pads_erase.specs.declared.mask.Mask.{Mask}
use Rattle.pads_erase.specs.declared.mode.Mode.TheVariants as mode
use Rattle.pads_mask.specs.Masks.{masked, masked_decl, masked_decls}

abbrev with_set : Decl → Bool → Decl
with_set decl set = record { name = decl.name; params = decl.params; body = decl.body; set = set }

set-kept : (set : Bool) → (set && true) ≡ set
set-kept true = refl
set-kept false = refl

both-decl : (decl : Decl) → masked_decl mode.Both decl ≡ decl
both-decl decl = ap (with_set decl) (set-kept decl.set)

abbrev both : Mask
both = record { all = mode.Both; named = [] }

both-decls : (m : Contents) (decls : List Decl) → masked_decls m.names both decls ≡ decls
both-decls m [] = refl
both-decls m (decl ∷ decls) = ap (λ first. first ∷ masked_decls m.names both decls) (both-decl decl) ∙ ap (λ rest. decl ∷ rest) (both-decls m decls)

abbrev with_decls : Contents → List Decl → Contents
with_decls m decls = record { decls = decls; names = m.names; shape = m.shape; scan = m.scan }

pub whole : (m : Contents) → masked m both ≡ m
whole m = ap (with_decls m) (both-decls m m.decls)
