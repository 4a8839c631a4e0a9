-- What is told of some pieces: the least violation of the rules at them.
use Rattle.std.specs.Prelude.{ℕ, List, [], ◌∷◌, ◌++◌, flat_map, Option, Some, None}
use Rattle.pads_ast.specs.declared.decl.Part.{Part}
use Rattle.pads_ast.specs.declared.decl.Part.TheVariants as part
use Rattle.pads_ast.specs.declared.decl.Array.{Array}
use Rattle.pads_ast.specs.declared.decl.Constraint.{Constraint}
use Rattle.pads_ast.specs.declared.decl.Label.{Label}
use Rattle.pads_rules.specs.declared.expr_sort.ExprSort.{ExprSort}
use Rattle.pads_ast.specs.declared.name.Word.{Word}
use Rattle.pads_ast.specs.declared.types.Literal.{Literal}
use Rattle.pads_ast.specs.declared.types.Literal.TheVariants as literal
use Rattle.pads_rules.specs.declared.declared.Named.{Named}
use Rattle.pads_rules.specs.declared.fault.CheckFault.{CheckFault}
use Rattle.pads_rules.specs.Faults.{each, lesser, least}
use Rattle.pads_rules.specs.Judging.{Scope, hiding}
use Rattle.pads_rules.specs.Pieces.{Site, Piece, Used, Computed, Condition, scope_of, conditions, literal_pieces, option_pieces}
use Rattle.pads_rules.specs.SiteFaults.{piece_faults}
use Rattle.pads_piece_rules.specs.Told.{piece_told, spelled_told}

unfoldable pub pieces_told : Site → List Piece → Option CheckFault
pieces_told site ps = least (each (piece_faults site) ps)

-- The pieces of a struct's part that don't see the part's own name.
abbrev pub first_pieces : List Named → List (List ℕ) → Part → List Piece
first_pieces names later (part.Literal l) = literal_pieces l
first_pieces names later (part.Pcompute of name value) = Computed (record { visible = names; later = later }) of value ∷ []
first_pieces names later (part.Field branch) = Used (record { visible = names; later = later }) branch.of ∷ []

-- Those that do; `names` are in scope behind the part.
abbrev pub last_pieces : List Named → List (List ℕ) → Part → List Piece
last_pieces names later (part.Literal l) = []
last_pieces names later (part.Pcompute of name value) = []
last_pieces names later (part.Field branch) = conditions (record { visible = names; later = later }) branch.constraint

abbrev pub literal_told : Literal → Option CheckFault
literal_told (literal.Word word) = spelled_told word
literal_told (literal.Peor at) = None

abbrev pub spelling_told : Option Word → Option CheckFault
spelling_told (Some word) = spelled_told word
spelling_told None = None

abbrev pub label_told : Label → Option CheckFault
label_told label = spelling_told label.spelling

unfoldable pub labels_told : List Label → Option CheckFault
labels_told [] = None
labels_told (label ∷ labels) = lesser (label_told label) (labels_told labels)

-- The options and the condition of an array, in a scope.
abbrev pub in_elements_told : Site → Scope → Array → Option CheckFault
in_elements_told site scope d = pieces_told site (flat_map (option_pieces scope) d.options ++ conditions scope d.condition)

-- The constraint of a typedef of a sort.
abbrev pub constraint_told : Site → List Named → ExprSort → Option Constraint → Option CheckFault
constraint_told site params sort None = None
constraint_told site params sort (Some own) = piece_told site (Condition (hiding own.variable.text sort (scope_of params)) own.condition)
