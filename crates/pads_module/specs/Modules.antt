-- A module as plain data.
use Rattle.std.specs.Prelude.{ℕ, Bool, ◌&&◌, List}
use Rattle.pads_module.specs.Counts.{module_counts}
use Rattle.pads_module.specs.Scopes.{module_in_scope}
use Rattle.pads_calc.specs.declared.decl.Decl.{Decl}
use Rattle.pads_calc.specs.declared.decl.Shape.{Shape}
use Rattle.pads_module.specs.declared.module.Module.{Module}

-- What a module has: declarations, the names of the numbers in them, which declarations the records
-- have, and how many bytes a search in them passes over at most.
pub record Contents : Type 0 where
  pub decls : List Decl
  pub names : List (List ℕ)
  pub shape : Shape
  pub scan : ℕ

abbrev pub made_of : List Decl → List (List ℕ) → Shape → ℕ → Contents
made_of decls names shape scan = record { decls = decls; names = names; shape = shape; scan = scan }

abbrev pub contents : Module → Contents
contents m = made_of m.decls m.names m.shape m.scan

-- Names, declarations and variables are there, and 16 bits count the parts of each term.
abbrev pub is_formed : Contents → Bool
is_formed m = module_counts m.decls && module_in_scope m.decls m.names m.shape
