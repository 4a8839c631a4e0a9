-- Masking: where a declaration's mode is without check, the constraints of its own body are gone; where it is
-- without set, the declaration keeps no values of its own.
use Rattle.std.specs.Prelude.{ℕ, Bool, ◌+◌, ◌&&◌, not, List, map, Option, option_map, position, if◌then◌else◌}
use Rattle.std.specs.List.{list_any}
use Rattle.std.specs.Str.{bytes_eq}
use Rattle.pads_calc.specs.declared.decl.Decl.{Decl}
use Rattle.pads_module.specs.Modules.{Contents, made_of}
use Rattle.pads_forms.specs.Terms.{name_at}
use Rattle.pads_erase.specs.declared.mask.Mask.{Mask}
use Rattle.pads_erase.specs.declared.mode.Mode.{Mode}
use Rattle.pads_erase.specs.Modes.{checks, keeps, mode_for}
use Rattle.pads_mask.specs.Unguarded.{unguarded}

abbrev pub masked_decl : Mode → Decl → Decl
masked_decl mode decl = record {
  name = decl.name;
  params = decl.params;
  body = if checks mode then decl.body else unguarded decl.body;
  set = decl.set && keeps mode;
}

-- the name of a declaration
abbrev pub name_of : Contents → Decl → List ℕ
name_of m decl = name_at m.names decl.name

-- declarations of these names, each by the mode of its own
abbrev pub masked_decls : List (List ℕ) → Mask → List Decl → List Decl
masked_decls names mask decls = map (λ decl. masked_decl (mode_for mask (name_at names decl.name)) decl) decls

abbrev pub masked : Contents → Mask → Contents
masked m mask = made_of (masked_decls m.names mask m.decls) m.names m.shape m.scan

-- some declaration has this name
abbrev pub is_declared : Contents → List ℕ → Bool
is_declared m name = list_any (λ decl. bytes_eq (name_of m decl) name) m.decls

-- the place of the first item that names no declaration
abbrev pub first_unknown : Contents → Mask → Option ℕ
first_unknown m mask = position (λ named. not (is_declared m named.name)) mask.named

-- the least such item, counted from 1
abbrev pub fault_of : Contents → Mask → Option ℕ
fault_of m mask = option_map (λ at. at + 1) (first_unknown m mask)
