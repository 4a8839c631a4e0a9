-- What the declarations of a tree have in common.
use Rattle.std.specs.Prelude.{ℕ, Bool, true, false, List, [], ◌∷◌, ◌++◌, map, flat_map, Option, Some, None}
use Rattle.pads_ast.specs.declared.decl.DeclBody.{DeclBody}
use Rattle.pads_ast.specs.declared.decl.DeclBody.TheVariants as decl
use Rattle.pads_ast.specs.declared.decl.DeclMark.{DeclMark}
use Rattle.pads_ast.specs.declared.decl.DeclMark.TheVariants as mark
use Rattle.pads_ast.specs.declared.decl.Part.{Part}
use Rattle.pads_ast.specs.declared.decl.Part.TheVariants as part
use Rattle.pads_ast.specs.declared.decl.UnionBody.{UnionBody}
use Rattle.pads_ast.specs.declared.decl.UnionBody.TheVariants as union
use Rattle.pads_ast.specs.declared.name.Name.{Name}
use Rattle.pads_ast.specs.declared.name.Word.{Word}
use Rattle.pads_ast.specs.declared.name.Word.TheVariants as word
use Rattle.pads_ast.specs.declared.types.Arg.{Arg}
use Rattle.pads_ast.specs.declared.types.Branch.{Branch}
use Rattle.pads_ast.specs.declared.types.Param.{Param}
use Rattle.pads_ast.specs.declared.types.Type.{«Type»}

-- What is written in brackets, or nothing.
abbrev pub written : {A : Type 0} → Option (List A) → List A
written None = []
written (Some xs) = xs

abbrev pub listed : {A : Type 0} → Option A → List A
listed None = []
listed (Some x) = x ∷ []

abbrev pub is_empty : {A : Type 0} → List A → Bool
is_empty [] = true
is_empty (x ∷ xs) = false

abbrev pub args_of : «Type» → List Arg
args_of t = written t.args

abbrev pub name_of : DeclBody → Name
name_of (decl.Struct d) = d.name
name_of (decl.Union d) = d.name
name_of (decl.Array d) = d.name
name_of (decl.Enum d) = d.name
name_of (decl.Typedef d) = d.name
name_of (decl.Opt d) = d.name

abbrev pub params_of : DeclBody → List Param
params_of (decl.Struct d) = written d.params
params_of (decl.Union d) = written d.params
params_of (decl.Array d) = written d.params
params_of (decl.Enum d) = []
params_of (decl.Typedef d) = written d.params
params_of (decl.Opt d) = written d.params

-- The named part of a struct that a part is, with its type.
abbrev pub named_part : Part → List (Name × «Type»)
named_part (part.Literal literal) = []
named_part (part.Pcompute of name value) = (name, of) ∷ []
named_part (part.Field branch) = (branch.name, branch.of) ∷ []

abbrev pub part_names : Part → List Name
part_names p = map (λ named. named.0) (named_part p)

-- The branches of a union in the order of the text.
abbrev pub branches_of : UnionBody → List Branch
branches_of (union.Branches branches) = branches
branches_of (union.Switch switch) = map (λ case. case.branch) switch.cases ++ listed switch.default

-- The names of a declaration's parameters, and of its parts, branches or labels, in the order of the text.
abbrev pub inner_names : DeclBody → List Name
inner_names (decl.Struct d) = flat_map part_names d.parts
inner_names (decl.Union d) = map (λ branch. branch.name) (branches_of d.body)
inner_names (decl.Array d) = []
inner_names (decl.Enum d) = map (λ label. label.name) d.labels
inner_names (decl.Typedef d) = []
inner_names (decl.Opt d) = []

abbrev pub param_names : DeclBody → List Name
param_names d = map (λ param. param.name) (params_of d)

abbrev pub points_of : Word → List ℕ
points_of (word.Char point at) = point ∷ []
points_of (word.Text points at) = points

abbrev pub is_precord : Option DeclMark → Bool
is_precord (Some mark.Precord) = true
is_precord (Some mark.Psource) = false
is_precord (Some mark.Precursive) = false
is_precord None = false

abbrev pub is_psource : Option DeclMark → Bool
is_psource (Some mark.Precord) = false
is_psource (Some mark.Psource) = true
is_psource (Some mark.Precursive) = false
is_psource None = false

abbrev pub is_precursive : Option DeclMark → Bool
is_precursive (Some mark.Precord) = false
is_precursive (Some mark.Psource) = false
is_precursive (Some mark.Precursive) = true
is_precursive None = false
