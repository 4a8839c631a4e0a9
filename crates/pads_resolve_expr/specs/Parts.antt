-- The parts of structs by their names.
use Rattle.std.specs.Prelude.{ℕ, List, [], Option, Some, None, slice_get, position}
use Rattle.pads_ast.specs.declared.decl.Decl.{Decl}
use Rattle.pads_ast.specs.declared.decl.DeclBody.{DeclBody}
use Rattle.pads_ast.specs.declared.decl.DeclBody.TheVariants as body
use Rattle.pads_ast.specs.declared.decl.Part.{Part}
use Rattle.pads_declared.specs.declared.first_numbers.FirstNumbers.{FirstNumbers}
use Rattle.pads_declared.specs.Numbered.{IsNumbered, InPairs}
use Rattle.pads_resolution.specs.Numbers.{has_name}

-- The parts of a struct; all else has none.
abbrev pub parts_in : DeclBody → List Part
parts_in (body.Struct d) = d.parts
parts_in (body.Union d) = []
parts_in (body.Array d) = []
parts_in (body.Enum d) = []
parts_in (body.Typedef d) = []
parts_in (body.Opt d) = []

-- The same of a declaration by its number.
abbrev pub parts_of : List Decl → ℕ → List Part
parts_of decls number = found (slice_get decls number)
  where
    found : Option Decl → List Part
    found None = []
    found (Some d) = parts_in d.body

-- The number of the first part of a name, literals counted.
abbrev pub part_position : List Decl → ℕ → List ℕ → Option ℕ
part_position decls number name = position (has_name name) (parts_of decls number)

-- For each declaration there are the numbers of its named parts.
abbrev pub AreNumbered : List Decl → List FirstNumbers → Type 0
AreNumbered decls numbers = InPairs (λ decl first. IsNumbered has_name (parts_in decl.body) first) decls numbers
