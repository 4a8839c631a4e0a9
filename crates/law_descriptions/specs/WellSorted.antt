-- Well-sorted descriptions: each expression has the sort that its use asks for, calls name earlier
-- declarations or such as tell their sort themselves, and 16 bits count what is counted.
use Rattle.std.specs.Prelude.{◌≡◌, ◌⊎◌, ⊤, ℕ, ◌<◌, true, List, [], ◌∷◌, map, length, Option, Some, None, slice_get}
use Rattle.pads_base_names.specs.Names.{takes}
use Rattle.pads_base_names.specs.declared.meaning.Takes.{Takes}
use Rattle.pads_base_names.specs.declared.meaning.Takes.TheVariants as takes_form
use Rattle.pads_bases.specs.Enums.{SpellingsDiffer}
use Rattle.pads_module.specs.Counts.{few}
use Rattle.pads_rules.specs.declared.sort.Form.TheVariants as form
use Rattle.pads_rules.specs.declared.sort.Sort.{Sort}
use Rattle.pads_resolution.specs.declared.decl.Array.{Array}
use Rattle.pads_resolution.specs.declared.decl.ArrayOption.{ArrayOption}
use Rattle.pads_resolution.specs.declared.decl.ArrayOption.TheVariants as option
use Rattle.pads_resolution.specs.declared.decl.Case.{Case}
use Rattle.pads_resolution.specs.declared.decl.Decl.{Decl}
use Rattle.pads_resolution.specs.declared.decl.DeclBody.{DeclBody}
use Rattle.pads_resolution.specs.declared.decl.DeclBody.TheVariants as body
use Rattle.pads_resolution.specs.declared.decl.Description.{Description}
use Rattle.pads_resolution.specs.declared.decl.Label.{Label}
use Rattle.pads_resolution.specs.declared.decl.Part.{Part}
use Rattle.pads_resolution.specs.declared.decl.Part.TheVariants as part
use Rattle.pads_resolution.specs.declared.decl.Struct.{Struct}
use Rattle.pads_resolution.specs.declared.decl.Typedef.{Typedef}
use Rattle.pads_resolution.specs.declared.decl.Union.{Union}
use Rattle.pads_resolution.specs.declared.decl.Union.TheVariants as union
use Rattle.pads_resolution.specs.declared.expr.Expr.{Expr}
use Rattle.pads_resolution.specs.declared.types.Branch.{Branch}
use Rattle.pads_resolution.specs.declared.types.Const.{Const}
use Rattle.pads_resolution.specs.declared.types.Const.TheVariants as const
use Rattle.pads_resolution.specs.declared.types.Param.{Param}
use Rattle.pads_resolution.specs.declared.types.«Type».{«Type» as Typed}
use Rattle.pads_resolution.specs.declared.types.TypeName.{TypeName}
use Rattle.pads_resolution.specs.declared.types.TypeName.TheVariants as type_name
use Rattle.pads_trans.specs.Terms.{label_of}
use Rattle.pads_trans.specs.Met.{names_of}
use Rattle.pads_trans.specs.Names.{Name, at_sign}
use Rattle.law_descriptions.specs.Expressions.{SortScope, sort_in, if_read, union_branches}
use Rattle.law_descriptions.specs.Sorts.{plain, num, text, truth, computed_sort, type_sort, body_sort}

-- all items of a list, one by one
abbrev pub Each : {A : Type 0} → (A → Type 0) → List A → Type 0
Each P [] = ⊤
Each P (x ∷ xs) = P x × Each P xs

abbrev pub IfThere : {A : Type 0} → (A → Type 0) → Option A → Type 0
IfThere P None = ⊤
IfThere P (Some x) = P x

-- Arguments are those that a base type takes, where arguments of such sorts are given. `Peor` is none.
abbrev pub AreTaken : Takes → (List Sort → Type 0) → Type 0
AreTaken takes_form.Nothing Given = Given []
AreTaken takes_form.Number Given = Given (num ∷ [])
AreTaken takes_form.NumberOrNothing Given = Given [] ⊎ Given (num ∷ [])
AreTaken takes_form.Text Given = Given (text ∷ [])
AreTaken takes_form.TextOrEnd Given = Given [] ⊎ Given (text ∷ [])

abbrev pub IsNumberKey : Const → Type 0
IsNumberKey (const.Number number) = ⊤
IsNumberKey (const.Word points) = ⊥

abbrev pub IsTextKey : Const → Type 0
IsTextKey (const.Number number) = ⊥
IsTextKey (const.Word points) = ⊤

-- A parameter is a number or a text.
abbrev pub IsParam : Param → Type 0
IsParam param = (param.sort ≡ num) ⊎ (param.sort ≡ text)

-- Parameters are bound in their order.
abbrev pub params_scope : List Param → SortScope → SortScope
params_scope [] scope = scope
params_scope (param ∷ params) scope = params_scope params ((param.name, param.sort) ∷ scope)

abbrev pub param_sorts : List Param → List Sort
param_sorts params = map (λ param. param.sort) params

-- A body tells the sort of its values itself: it doesn't have that of another declaration.
abbrev pub TellsSort : DeclBody → Type 0
TellsSort (body.Struct s) = ⊤
TellsSort (body.Union u) = ⊤
TellsSort (body.Array a) = ⊤
TellsSort (body.Enum labels) = ⊤
TellsSort (body.Typedef t) = ⊥
TellsSort (body.Opt inner) = ⊥

abbrev pub TellsItself : Option Decl → Type 0
TellsItself None = ⊥
TellsItself (Some d) = TellsSort d.body

-- of these declarations, whose values have these sorts
module _ (decls : List Decl) (sorts : List Sort) where
  abbrev pub HasSort : SortScope → Expr → Sort → Type 0
  HasSort scope e sort = sort_in decls sorts e scope ≡ Some sort

  abbrev pub IsNumber : SortScope → Expr → Type 0
  IsNumber scope e = HasSort scope e num

  abbrev pub IsTruth : SortScope → Expr → Type 0
  IsTruth scope e = HasSort scope e truth

  -- So many arguments, of these sorts.
  abbrev pub HaveSorts : SortScope → List Expr → List Sort → Type 0
  HaveSorts scope [] [] = ⊤
  HaveSorts scope [] (sort ∷ wanted) = ⊥
  HaveSorts scope (e ∷ es) [] = ⊥
  HaveSorts scope (e ∷ es) (sort ∷ wanted) = HasSort scope e sort × HaveSorts scope es wanted

  -- A constraint, in which a name stands for a value of this sort.
  abbrev pub IsConstraint : SortScope → Name → Sort → Option Expr → Type 0
  IsConstraint scope name sort condition = IfThere (IsTruth ((name, sort) ∷ scope)) condition

  -- in the declaration of this number
  module _ (number : ℕ) where
    -- A declaration that may be called from here: an earlier one, or any that tells its sort itself.
    abbrev pub MayBeCalled : ℕ → Type 0
    MayBeCalled n = (n < number) ⊎ TellsItself (slice_get decls n)

    -- A call names such a declaration that is read, and has arguments for its parameters.
    abbrev pub IsCall : SortScope → List Expr → ℕ → Type 0
    IsCall scope args n =
        MayBeCalled n × (d : Decl) × (slice_get decls n ≡ Some d) × (if_read d.role d.body ≡ Some d.body)
        × HaveSorts scope args (param_sorts d.params)

    abbrev pub IsNamed : SortScope → List Expr → TypeName → Type 0
    IsNamed scope args (type_name.Base b) = AreTaken (takes b) (HaveSorts scope args)
    IsNamed scope args (type_name.Declared n) = IsCall scope args n

    abbrev pub IsType : SortScope → Typed → Type 0
    IsType scope t = IsNamed scope t.args t.name

    -- A field or a branch: its constraint sees its name.
    abbrev pub IsBranch : SortScope → Branch → Type 0
    IsBranch scope f = IsType scope f.of × IsConstraint scope f.name (type_sort sorts f.of) f.constraint

    abbrev pub IsPart : SortScope → Part → Type 0
    IsPart scope (part.Literal l) = ⊤
    IsPart scope (part.Pcompute of name value) = HasSort scope value (computed_sort of)
    IsPart scope (part.Field f) = IsBranch scope f

    abbrev pub behind : Part → SortScope → SortScope
    behind (part.Literal l) scope = scope
    behind (part.Pcompute of name value) scope = (name, computed_sort of) ∷ scope
    behind (part.Field f) scope = (f.name, type_sort sorts f.of) ∷ scope

    -- Later parts see the names of earlier ones.
    abbrev pub AreParts : SortScope → List Part → Type 0
    AreParts scope [] = ⊤
    AreParts scope (p ∷ parts) = IsPart scope p × AreParts (behind p scope) parts

    abbrev pub IsStruct : SortScope → Struct → Type 0
    IsStruct scope s =
        (few s.parts ≡ true) × AreParts scope s.parts × IsConstraint scope at_sign (plain (form.Struct number)) s.condition

    -- Case constants are of the sort of the switch's expression.
    abbrev pub Chooses : SortScope → Expr → List Case → Type 0
    Chooses scope value cases =
        (HasSort scope value num × Each (λ case. IsNumberKey case.key) cases)
        ⊎ (HasSort scope value text × Each (λ case. IsTextKey case.key) cases)

    abbrev pub IsChosen : SortScope → Union → Type 0
    IsChosen scope (union.Branches branches) = ⊤
    IsChosen scope (union.Pswitch s) = Chooses scope s.value s.cases

    abbrev pub IsUnion : SortScope → Union → Type 0
    IsUnion scope u = (few (union_branches u) ≡ true) × IsChosen scope u × Each (IsBranch scope) (union_branches u)

    abbrev pub IsOption : SortScope → ArrayOption → Type 0
    IsOption scope (option.Psep points) = ⊤
    IsOption scope (option.Pterm l) = ⊤
    IsOption scope (option.Plast e) = IsTruth ((at_sign, plain (form.Array number)) ∷ scope) e

    abbrev pub IsArray : SortScope → Array → Type 0
    IsArray scope a =
        IsType scope a.of × IfThere (IsNumber scope) a.size × Each (IsOption scope) a.options
        × IsConstraint scope at_sign (plain (form.Array number)) a.condition

    abbrev pub IsEnum : List Label → Type 0
    IsEnum labels = (few labels ≡ true) × SpellingsDiffer (map label_of labels)

    abbrev pub IsTypedef : SortScope → Typedef → Type 0
    IsTypedef scope t =
        IsType scope t.of × IfThere (λ c. IsTruth ((c.variable, type_sort sorts t.of) ∷ scope) c.condition) t.constraint

    abbrev pub IsBody : SortScope → DeclBody → Type 0
    IsBody scope (body.Struct s) = IsStruct scope s
    IsBody scope (body.Union u) = IsUnion scope u
    IsBody scope (body.Array a) = IsArray scope a
    IsBody scope (body.Enum labels) = IsEnum labels
    IsBody scope (body.Typedef t) = IsTypedef scope t
    IsBody scope (body.Opt inner) = IsType scope inner

    -- The body of a source isn't read.
    abbrev pub IsDecl : Decl → Type 0
    IsDecl d =
        (few d.params ≡ true) × Each IsParam d.params × IfThere (IsBody (params_scope d.params [])) (if_read d.role d.body)

-- Each declaration's values have the sort of its body.
abbrev pub AreSorts : List Sort → List Decl → Type 0
AreSorts sorts decls =
    (number : ℕ) (d : Decl) → slice_get decls number ≡ Some d → slice_get sorts number ≡ Some (body_sort sorts number d.body)

pub record WellSorted (description : Description) : Type 0 where
  -- the sorts of the declarations' values
  pub sorts : List Sort
  pub are : AreSorts sorts description.decls
  pub decls : (number : ℕ) (d : Decl) → slice_get description.decls number ≡ Some d → IsDecl description.decls sorts number d
  -- 16 bits number declarations and names
  pub few_decls : few description.decls ≡ true
  pub few_names : length (names_of description) < 65535
  -- the record types of the source are declared
  pub header : IfThere (λ number. number < length description.decls) description.source.header
  pub record_type : description.source.record < length description.decls
