-- The names that an expression may use, with what they stand for; the first of a text counts.
use Rattle.std.specs.Prelude.{ℕ, suc, List, [], ◌∷◌, ◌++◌, map, Option, option_map, find, codes}
use Rattle.pads_ast.specs.declared.decl.Part.{Part}
use Rattle.pads_ast.specs.declared.name.Name.{Name}
use Rattle.pads_ast.specs.declared.types.Type.{«Type»}
use Rattle.pads_rules.specs.declared.sort.Form.TheVariants as form
use Rattle.pads_rules.specs.declared.declared.Named.{Named}
use Rattle.pads_rules.specs.declared.expr_sort.ExprSort.{ExprSort}
use Rattle.pads_rules.specs.Resolving.{Sight, named}
use Rattle.pads_rules.specs.Sorts.{num, plain}
use Rattle.pads_rules.specs.Texts.{same_text}
use Rattle.pads_ast.specs.Trees.{named_part}
use Rattle.pads_resolution.specs.declared.visible.Known.{Known}
use Rattle.pads_resolution.specs.declared.visible.Stands.{Stands}
use Rattle.pads_resolution.specs.declared.visible.Stands.TheVariants as stands
use Rattle.pads_resolution.specs.declared.visible.Visible.{Visible}
use Rattle.pads_resolution.specs.Numbers.{short}

abbrev pub NameScope : Type 0
NameScope = List Visible

-- What is known of a name.
abbrev pub known_in : NameScope → List ℕ → Option Known
known_in scope text = option_map (λ visible. visible.known) (find (λ visible. same_text visible.text text) scope)

-- A name that stands for something of a sort.
abbrev pub name_as : List ℕ → Stands → ExprSort → Visible
name_as text what sort = record { text = text; known = record { stands = what; sort = sort } }

-- A name that hides others.
abbrev pub hiding : List ℕ → Stands → ExprSort → NameScope → NameScope
hiding text what sort scope = name_as text what sort ∷ scope

-- A name as a variable.
abbrev pub variable : Named → Visible
variable named = name_as named.text stands.Variable named.sort

-- The names in scope behind a part of a struct.
abbrev pub names_after : Sight → NameScope → Part → NameScope
names_after types names p = names ++ map (λ both. variable (named types both)) (named_part p)

-- A name as a field of a number.
abbrev pub field : Sight → ℕ → Name × «Type» → Visible
field types number both = name_as both.0.text (stands.Field (short number)) (named types both).sort

-- The names in the `Pwhere` of a struct behind some others: its fields, by their numbers among all parts from a
-- number on.
abbrev pub fields_after : Sight → NameScope → ℕ → List Part → NameScope
fields_after types names number [] = names
fields_after types names number (p ∷ parts) = fields_after types (names ++ map (field types number) (named_part p)) (suc number) parts

-- In the conditions of an array its elements so far and their number hide other names.
abbrev pub array_scope : ℕ → NameScope → NameScope
array_scope number scope = hiding (codes "elts") stands.Elts (plain (form.Array number)) (hiding (codes "length") stands.Length num scope)
