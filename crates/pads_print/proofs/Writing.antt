-- What a buffer has while a value is written: the whole is what was written, and then the rest.
use Rattle.std.proofs.Common.{◌≡◌, ◌≢◌, ◌∙◌, sym, ap, refl, ℕ, zero, suc, ◌+◌, ◌-◌, ◌<◌, ◌≤◌, Bool, true, false, List, [], ◌∷◌, ◌++◌, length, drop, get_or, map, Option, Some, None, slice_get, option_map, if◌then◌else◌, arith}
use Rattle.std.proofs.lemmas.List.{append-nil, append_assoc, length-map}
use Rattle.std.proofs.lemmas.Option.{slice_get-map}
use Rattle.pads_value.specs.declared.value.Val.{Val, Val-F, roll-Val, out-Val, roll-out-Val}
use Rattle.pads_value.specs.declared.value.Val.TheVariants as val
use Rattle.pads_expr.specs.declared.expr.Expr.{Expr}
use Rattle.pads_expr.specs.Value.{Pairs}
use Rattle.pads_dispatch.specs.declared.base.Arg.{Arg}
use Rattle.pads_calc.specs.declared.decl.Decl.{Decl}
use Rattle.pads_calc.specs.declared.term.Arm.{Arm}
use Rattle.pads_calc.specs.declared.term.Case.{Case}
use Rattle.pads_calc.specs.declared.term.Part.{Part}
use Rattle.pads_calc.specs.declared.term.Seq.{Seq}
use Rattle.pads_calc.specs.declared.term.Term.{Term}
use Rattle.pads_calc.specs.Arguments.{arguments, bound_to}
use Rattle.pads_calc.specs.Structs.{bind}
use Rattle.pads_calc.proofs.Lists.{drop-next, drop-past'}
use Rattle.pads_forms.specs.Shapes.{branch_in, tuple_in}
use Rattle.law_canonical.proofs.Spelled.{tuple-bytes}
use Rattle.law_canonical.specs.Canonical.{Speller, NamedSpeller, CallSpeller, canon, call_spelled, spelled, is_unit, joined, of_unit, of_body, in_order, of_struct, of_branch, of_arm, before, each_element}
use Rattle.pads_print.specs.Writes.{behind, filled, part_spells, arm_spells, case_spells, seq_spells}

pub none-behind : (old : List ℕ) → filled true old ≡ behind old (Some [])
none-behind old = ap Some (sym (append-nil old))

joined-none : (bytes : Option (List ℕ)) → joined bytes None ≡ None
joined-none None = refl
joined-none (Some bytes) = refl

-- what was written stands before the rest
pub then-rest : (old new : List ℕ) (bytes rest : Option (List ℕ)) → filled true new ≡ behind old bytes → behind old (joined bytes rest) ≡ behind new rest
then-rest old new None rest is = absurd cc
then-rest old new (Some bytes) None is = refl
then-rest old new (Some bytes) (Some rest) is =
    let same : old ++ bytes ≡ new = cc in
    ap Some (sym (append_assoc old bytes rest) ∙ ap (λ front. front ++ rest) same)

-- where nothing was written the whole has no bytes
pub then-none : (old new : List ℕ) (bytes rest : Option (List ℕ)) → filled false new ≡ behind old bytes → behind old (joined bytes rest) ≡ None
then-none old new None rest is = refl
then-none old new (Some bytes) rest is = absurd cc

pub there-next : {X : Type 0} (xs : List X) (n : ℕ) (x : X) → n < length xs → x ≡ get_or xs n x → drop n xs ≡ x ∷ drop (n + 1) xs
there-next xs n x there is = drop-next xs n x there ∙ ap (λ first. first ∷ drop (n + 1) xs) (sym is)

-- a struct with another number of values than parts has no bytes
uneven : (parts : List NamedSpeller) (env : Pairs) (values : List Val) → length parts ≢ length values → in_order parts env values ≡ None
uneven [] env [] differ = absurd (differ refl)
uneven [] env (v ∷ values) differ = refl
uneven (part ∷ parts) env [] differ = refl
uneven (part ∷ parts) env (v ∷ values) differ =
    let fewer : length parts ≢ length values = λ same. differ (omega (arith, same)) in
    ap (joined (part.speller env v)) (uneven parts (bind part.name v env) values fewer) ∙ joined-none (part.speller env v)

-- a kept value stands for what a term makes of nothing
absorbed-layer : (layer : Val-F Val) → is_unit layer ≡ true → roll-Val layer ≡ val.Unit
absorbed-layer Val-F.Unit is = val.rolls-Unit
absorbed-layer Val-F.Missing is = absurd cc
absorbed-layer (Val-F.Num number) is = absurd cc
absorbed-layer (Val-F.Text text) is = absurd cc
absorbed-layer (Val-F.Enum label) is = absurd cc
absorbed-layer (Val-F.Tuple parts) is = absurd cc
absorbed-layer (Val-F.Branch number inner) is = absurd cc
absorbed-layer (Val-F.Array elements) is = absurd cc

module _ (decls : List Decl) (depth : ℕ) where
  pub absorbed-kept : (inner : Term) (env : Pairs) (v : Val) → is_unit (out-Val v) ≡ true → of_unit (canon decls depth inner env val.Unit) v ≡ canon decls depth inner env v
  absorbed-kept inner env v is =
      let nothing : v ≡ val.Unit = sym (roll-out-Val v) ∙ absorbed-layer (out-Val v) is in
      ap (λ (kept : Bool). if kept then canon decls depth inner env val.Unit else None) is ∙ ap (canon decls depth inner env) (sym nothing)

  abbrev pub parts_spell : List Part → Pairs → List Val → Option (List ℕ)
  parts_spell parts env values = in_order (map (part_spells decls depth) parts) env values

  pub uneven-parts : (parts : List Part) (env : Pairs) (values : List Val) → length values ≢ length parts → parts_spell parts env values ≡ None
  uneven-parts parts env values differ =
      uneven (map (part_spells decls depth) parts) env values (λ same. differ (sym same ∙ length-map parts (part_spells decls depth)))

  -- a struct's value by its parts
  pub struct-opens : (parts : List Part) (env : Pairs) (v : Val) (values : List Val) → v ≡ val.Tuple values
      → of_struct (map (part_spells decls depth) parts) env (tuple_in (out-Val v)) ≡ parts_spell parts env values
  struct-opens parts env v values is =
      ap (λ v. of_struct (map (part_spells decls depth) parts) env (tuple_in (out-Val v))) is ∙ tuple-bytes (map (part_spells decls depth) parts) env values

  pub part-next : (parts : List Part) (values : List Val) (env : Pairs) (at : ℕ) (part : Part) (v : Val) (old new : List ℕ)
      → drop at parts ≡ part ∷ drop (at + 1) parts → drop at values ≡ v ∷ drop (at + 1) values → filled true new ≡ behind old (canon decls depth part.term env v)
      → behind old (parts_spell (drop at parts) env (drop at values)) ≡ behind new (parts_spell (drop (at + 1) parts) (bind part.name v env) (drop (at + 1) values))
  part-next parts values env at part v old new here there is =
      ap (λ parts. behind old (parts_spell parts env (drop at values))) here
      ∙ ap (λ values. behind old (parts_spell (part ∷ drop (at + 1) parts) env values)) there
      ∙ then-rest old new (canon decls depth part.term env v) (parts_spell (drop (at + 1) parts) (bind part.name v env) (drop (at + 1) values)) is

  pub part-none : (parts : List Part) (values : List Val) (env : Pairs) (at : ℕ) (part : Part) (v : Val) (old new : List ℕ)
      → drop at parts ≡ part ∷ drop (at + 1) parts → drop at values ≡ v ∷ drop (at + 1) values → filled false new ≡ behind old (canon decls depth part.term env v)
      → behind old (parts_spell (drop at parts) env (drop at values)) ≡ None
  part-none parts values env at part v old new here there is =
      ap (λ parts. behind old (parts_spell parts env (drop at values))) here
      ∙ ap (λ values. behind old (parts_spell (part ∷ drop (at + 1) parts) env values)) there
      ∙ then-none old new (canon decls depth part.term env v) (parts_spell (drop (at + 1) parts) (bind part.name v env) (drop (at + 1) values)) is

  pub parts-done : (parts : List Part) (values : List Val) (env : Pairs) (at : ℕ) (old : List ℕ) → length parts ≤ at → length values ≤ at
      → filled true old ≡ behind old (parts_spell (drop at parts) env (drop at values))
  parts-done parts values env at old over past = rw (drop-past' parts at over, drop-past' values at past) (none-behind old)

  abbrev pub elements_spell : Seq → Bool → Pairs → List Val → Option (List ℕ)
  elements_spell s is_first env values = each_element (seq_spells decls depth s) is_first env values

  abbrev pub between : Seq → Bool → Pairs → Option (List ℕ)
  between s is_first env = before (option_map (canon decls depth) s.sep) is_first env

  module _ (s : Seq) (is_first : Bool) (env : Pairs) (values : List Val) (at : ℕ) (v : Val) (there : drop at values ≡ v ∷ drop (at + 1) values) (old : List ℕ) where
    abbrev pub whole : Option (List ℕ)
    whole = behind old (elements_spell s is_first env (drop at values))

    opened : whole ≡ behind old (joined (between s is_first env) (joined (canon decls depth s.elem env v) (elements_spell s false env (drop (at + 1) values))))
    opened = ap (λ values. behind old (elements_spell s is_first env values)) there

    pub separator-none : (new : List ℕ) → filled false new ≡ behind old (between s is_first env) → whole ≡ None
    separator-none new is = opened ∙ then-none old new (between s is_first env) (joined (canon decls depth s.elem env v) (elements_spell s false env (drop (at + 1) values))) is

    behind-separator : (middle : List ℕ) → filled true middle ≡ behind old (between s is_first env)
        → whole ≡ behind middle (joined (canon decls depth s.elem env v) (elements_spell s false env (drop (at + 1) values)))
    behind-separator middle is =
        opened ∙ then-rest old middle (between s is_first env) (joined (canon decls depth s.elem env v) (elements_spell s false env (drop (at + 1) values))) is

    pub element-none : (middle new : List ℕ) → filled true middle ≡ behind old (between s is_first env) → filled false new ≡ behind middle (canon decls depth s.elem env v) → whole ≡ None
    element-none middle new separated is =
        behind-separator middle separated ∙ then-none middle new (canon decls depth s.elem env v) (elements_spell s false env (drop (at + 1) values)) is

    pub element-next : (middle new : List ℕ) → filled true middle ≡ behind old (between s is_first env) → filled true new ≡ behind middle (canon decls depth s.elem env v)
        → whole ≡ behind new (elements_spell s false env (drop (at + 1) values))
    element-next middle new separated is =
        behind-separator middle separated ∙ then-rest middle new (canon decls depth s.elem env v) (elements_spell s false env (drop (at + 1) values)) is

  pub elements-done : (s : Seq) (is_first : Bool) (env : Pairs) (values : List Val) (at : ℕ) (old : List ℕ) → length values ≤ at
      → filled true old ≡ behind old (elements_spell s is_first env (drop at values))
  elements-done s is_first env values at old past = rw (drop-past' values at past) (none-behind old)

  pub arm-there : (arms : List Arm) (number : ℕ) (arm : Arm) → slice_get arms number ≡ Some arm → slice_get (map (arm_spells decls depth) arms) number ≡ Some (canon decls depth arm.term)
  arm-there arms number arm there = slice_get-map (arm_spells decls depth) arms number ∙ ap (option_map (arm_spells decls depth)) there

  pub arm-past : (arms : List Arm) (number : ℕ) (env : Pairs) (v : Val) → slice_get arms number ≡ None
      → of_branch (map (arm_spells decls depth) arms) env (branch_in (out-Val (val.Branch number v))) ≡ None
  arm-past arms number env v past =
      ap (λ layer. of_branch (map (arm_spells decls depth) arms) env (branch_in layer)) (val.outs-Branch number v)
      ∙ ap (λ found. of_arm found env v) (slice_get-map (arm_spells decls depth) arms number ∙ ap (option_map (arm_spells decls depth)) past)

  pub case-there : (cases : List Case) (number : ℕ) (case : Case) → slice_get cases number ≡ Some case → slice_get (map (case_spells decls depth) cases) number ≡ Some (canon decls depth case.arm.term)
  case-there cases number case there = slice_get-map (case_spells decls depth) cases number ∙ ap (option_map (case_spells decls depth)) there

  pub case-past : (cases : List Case) (number : ℕ) (env : Pairs) (v : Val) → slice_get cases number ≡ None
      → of_branch (map (case_spells decls depth) cases) env (branch_in (out-Val (val.Branch number v))) ≡ None
  case-past cases number env v past =
      ap (λ layer. of_branch (map (case_spells decls depth) cases) env (branch_in layer)) (val.outs-Branch number v)
      ∙ ap (λ found. of_arm found env v) (slice_get-map (case_spells decls depth) cases number ∙ ap (option_map (case_spells decls depth)) past)

-- a call, case by case
module _ (decls : List Decl) (number : ℕ) (args : List Expr) (env : Pairs) (v : Val) where
  pub call-deep : (depth : ℕ) → depth ≡ 0 → call_spelled decls depth number args env v ≡ None
  unfolding call_spelled
  call-deep depth none = rw none refl

  call-suc : (depth : ℕ) → call_spelled decls (suc depth) number args env v ≡ of_body (canon decls depth) (slice_get decls number) (arguments args env) v
  unfolding call_spelled
  call-suc depth = refl

  unargued : (speller : Term → Speller) (decl : Option Decl) → of_body speller decl None v ≡ None
  unargued speller None = refl
  unargued speller (Some decl) = refl

  pub call-unargued : (depth : ℕ) → depth ≢ 0 → arguments args env ≡ None → call_spelled decls depth number args env v ≡ None
  call-unargued zero some none = absurd (some refl)
  call-unargued (suc depth) some none =
      call-suc depth ∙ ap (λ found. of_body (canon decls depth) (slice_get decls number) found v) none ∙ unargued (canon decls depth) (slice_get decls number)

  pub call-undeclared : (depth : ℕ) (found : List Arg) → depth ≢ 0 → arguments args env ≡ Some found → slice_get decls number ≡ None → call_spelled decls depth number args env v ≡ None
  call-undeclared zero found some argued none = absurd (some refl)
  call-undeclared (suc depth) found some argued none = rw (call-suc depth, argued, none) refl

  pub call-found : (depth : ℕ) (found : List Arg) (decl : Decl) → depth ≢ 0 → arguments args env ≡ Some found → slice_get decls number ≡ Some decl
      → call_spelled decls depth number args env v ≡ canon decls (depth - 1) decl.body (bound_to decl.params found []) v
  call-found zero found decl some argued there = absurd (some refl)
  call-found (suc depth) found decl some argued there =
      let less : suc depth - 1 ≡ depth = omega arith in
      rw (less, call-suc depth, argued, there) refl
