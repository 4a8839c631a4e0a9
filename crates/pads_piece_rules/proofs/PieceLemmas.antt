-- What is told of each kind of piece, by what is told of its parts.
use Rattle.std.proofs.Common.{◌≡◌, ◌∙◌, sym, ap, refl, ℕ, ◌+◌, ◌≤◌, take, not, ◌||◌, List, [], ◌∷◌, ◌++◌, length, Option}
use Rattle.std.specs.List.{enumerate_from}
use Rattle.std.proofs.lemmas.List.{take_all}
use Rattle.pads_ast.specs.declared.decl.Case.{Case}
use Rattle.pads_rules.specs.declared.expr_sort.ExprSort.{ExprSort}
use Rattle.pads_ast.specs.declared.expr.Expr.{Expr}
use Rattle.pads_ast.specs.declared.name.Word.{Word}
use Rattle.pads_ast.specs.declared.types.Arg.{Arg}
use Rattle.pads_ast.specs.declared.types.Const.{Const}
use Rattle.pads_ast.specs.declared.types.Type.{«Type»}
use Rattle.pads_rules.specs.declared.fault.CheckFault.{CheckFault}
use Rattle.pads_rules.specs.declared.rule.Rule.TheVariants as rule
use Rattle.pads_rules.specs.Faults.{breaks, when, each, lesser, least}
use Rattle.pads_rules.specs.Judging.{Scope, judged}
use Rattle.pads_rules.specs.PieceRules.{meaning_at, argument_sort, argument_faults, is_num_or_text, is_bare, is_computable_base, is_param_base}
use Rattle.pads_rules.specs.Pieces.{Site, sight, Used, OfParam, Computed, Condition, Size, Choice, Spelled}
use Rattle.pads_rules.specs.Resolving.{Meaning, type_sort}
use Rattle.pads_ast.specs.declared.types.Arg.TheVariants as arg
use Rattle.pads_rules.specs.Sorts.{accepts, agree, is_num_form, is_truth_form}
use Rattle.pads_ast.specs.Trees.{args_of}
use Rattle.pads_rules.proofs.Least.{lesser_comm, lesser_assoc, lesser-none, least-append, together, each-map}
use Rattle.pads_piece_rules.proofs.Steps.{none-lesser}
use Rattle.pads_piece_rules.specs.Told.{keys_of, piece_told, name_told, count_told, record_told, expression_told, argument_told, at_argument, arguments_told, at_key, keys_told, again_told, spelled_told}

-- the arguments' two rules, one after the other or argument by argument
numbered : (site : Site) (scope : Scope) (n : ℕ) (args : List Arg) → each (argument_faults site scope) args ≡ each (λ (both : ℕ × Arg). argument_faults site scope both.1) (enumerate_from n args)
numbered site scope n [] = refl
numbered site scope n (a ∷ args) = ap (λ rest. argument_faults site scope a ++ rest) (numbered site scope (n + 1) args)

at-arguments : (site : Site) (scope : Scope) (t : «Type») →
    lesser (least (each (argument_faults site scope) (args_of t))) (least (each (argument_sort site.env scope (meaning_at site t) (length (args_of t))) (enumerate_from 0 (args_of t))))
    ≡ arguments_told site scope t
unfolding arguments_told
at-arguments site scope t =
    ap (λ xs. lesser (least xs) (least (each (argument_sort site.env scope (meaning_at site t) (length (args_of t))) (enumerate_from 0 (args_of t))))) (numbered site scope 0 (args_of t))
    ∙ together (λ (both : ℕ × Arg). argument_faults site scope both.1) (argument_sort site.env scope (meaning_at site t) (length (args_of t))) (enumerate_from 0 (args_of t))

used-order : (n i c s r : Option CheckFault) → lesser (lesser (lesser (lesser n i) c) s) r ≡ lesser (lesser (lesser n (lesser i s)) c) r
used-order n i c s r =
    ap (λ x. lesser x r) (lesser_assoc (lesser n i) c s ∙ ap (lesser (lesser n i)) (lesser_comm c s) ∙ sym (lesser_assoc (lesser n i) s c) ∙ ap (λ x. lesser x c) (lesser_assoc n i s))

pub told-Used : (site : Site) (scope : Scope) (t : «Type») →
    piece_told site (Used scope t) ≡ lesser (lesser (lesser (name_told site t) (arguments_told site scope t)) (count_told site t)) (record_told site t)
unfolding piece_told name_told count_told record_told
told-Used site scope t =
    simp (least-append, lesser-none, none-lesser)
    (used-order _ _ _ _ _ ∙ ap (λ a. lesser (lesser (lesser (name_told site t) a) (count_told site t)) (record_told site t)) (at-arguments site scope t))

pub told-OfParam : (site : Site) (t : «Type») →
    piece_told site (OfParam t) ≡ lesser (lesser (name_told site t) (least (when (not (is_bare is_param_base site t)) (breaks rule.ParameterType t.name.at)))) (record_told site t)
unfolding piece_told name_told record_told
told-OfParam site t = simp (least-append, lesser-none, none-lesser) refl

pub told-Computed : (site : Site) (scope : Scope) (t : «Type») (value : Expr) →
    piece_told site (Computed scope t value)
    ≡ lesser (lesser (lesser (name_told site t) (least (judged site.env value scope).faults))
    (least (when (not (is_bare is_computable_base site t) || not (agree (type_sort (sight site) t) (judged site.env value scope).sort)) (breaks rule.ComputedType t.name.at)))) (record_told site t)
unfolding piece_told name_told record_told
told-Computed site scope t value = simp (least-append, lesser-none, none-lesser) refl

pub told-Condition : (site : Site) (scope : Scope) (e : Expr) →
    piece_told site (Condition scope e)
    ≡ lesser (least (judged site.env e scope).faults) (least (when (not (accepts is_truth_form (judged site.env e scope).sort)) (breaks rule.ConditionSort (judged site.env e scope).first)))
unfolding piece_told
told-Condition site scope e = simp (least-append, lesser-none, none-lesser) refl

pub told-Size : (site : Site) (scope : Scope) (e : Expr) →
    piece_told site (Size scope e)
    ≡ lesser (least (judged site.env e scope).faults) (least (when (not (accepts is_num_form (judged site.env e scope).sort)) (breaks rule.OperandSort (judged site.env e scope).first)))
unfolding piece_told
told-Size site scope e = simp (least-append, lesser-none, none-lesser) refl

pub told-Choice : (site : Site) (scope : Scope) (e : Expr) (constants : List Const) →
    piece_told site (Choice scope e constants)
    ≡ lesser (lesser (least (judged site.env e scope).faults)
    (lesser (least (when (not (accepts is_num_or_text (judged site.env e scope).sort)) (breaks rule.CaseSort (judged site.env e scope).first))) (keys_told (judged site.env e scope).sort constants)))
    (again_told constants)
unfolding piece_told keys_told again_told
told-Choice site scope e constants = simp (least-append, lesser-none, none-lesser) refl

pub told-Spelled : (site : Site) (word : Word) → piece_told site (Spelled word) ≡ spelled_told word
unfolding piece_told spelled_told
told-Spelled site word = simp (least-append, lesser-none, none-lesser) refl

pub ruleset piece_rules = (told-Used, told-OfParam, told-Computed, told-Condition, told-Size, told-Choice)

pub told-argument : (site : Site) (scope : Scope) (m : Meaning) (count number : ℕ) (e : Expr) →
    argument_told site scope m count number (arg.Expr e) ≡ expression_told site.env scope m number e
unfolding argument_told
told-argument site scope m count number e = least-append _ _

pub ruleset argument_rules = (told-argument)

pub same-arguments : (site : Site) (scope : Scope) (t : «Type») (m : Meaning) (args : List Arg) → m ≡ meaning_at site t → args ≡ args_of t →
    least (each (at_argument site scope m (length args)) (enumerate_from 0 args)) ≡ arguments_told site scope t
unfolding arguments_told
same-arguments site scope t m args e f = rw (e, f) refl

pub keys-end : (sort : ExprSort) (cases : List Case) (i : ℕ) → length cases ≤ i → least (each (λ (case : Case). at_key sort case.key) (take i cases)) ≡ keys_told sort (keys_of cases)
unfolding keys_told
keys-end sort cases i over = rw (take_all i cases over, each-map (at_key sort) (λ (case : Case). case.key) cases) refl
