-- The names of a description stay as they are in a table, so a module made with one is the description's.
use Rattle.std.proofs.Common.{◌≡◌, ◌∙◌, ap, refl, true, ◌&&◌, nat_lt, List, [], length}
use Rattle.std.specs.List.{flat_map}
use Rattle.pads_code.specs.declared.Coding.{Coding}
use Rattle.pads_resolution.specs.declared.decl.Description.{Description}
use Rattle.pads_module.specs.Modules.{is_formed}
use Rattle.pads_trans.specs.Modules.{module_by_table, module_of, is_module}
use Rattle.pads_trans.specs.Met.{in_decl, names_of}
use Rattle.pads_trans.specs.Names.{Name, with_names}
use Rattle.pads_trans.proofs.Places.{again}

names-again : (d : Description) → with_names [] (names_of d) ≡ names_of d
unfolding names_of
names-again d = again [] (flat_map in_decl d.decls) refl

pub whole : (d : Description) (ambient : Coding) (names : List Name) → names ≡ names_of d → module_by_table names d ambient ≡ module_of d ambient
whole d ambient names named = rw (named, names-again d) refl

pub formed : (d : Description) (ambient : Coding) (names : List Name)
    → names ≡ names_of d → true ≡ nat_lt (length (names_of d)) 65535 → is_formed (module_by_table names d ambient) ≡ is_module (module_of d ambient)
formed d ambient names named few =
    ap is_formed (whole d ambient names named) ∙ ap (λ b. b && is_formed (module_of d ambient)) few
