-- A question has at most one answer: what it asks, or why it is refused.
use Rattle.std.proofs.Common.{◌≡◌, ◌∙◌, sym, ap, subst, ℕ, List, [], Option, Some, None, Result, Ok, Err}
use Rattle.pads_ast.specs.declared.decl.Ast.{Ast}
use Rattle.pads_ast.specs.declared.decl.ExprAst.{ExprAst}
use Rattle.pads_expr.specs.declared.expr.Expr.{Expr}
use Rattle.pads_grammar.specs.Kinds.{Tokens}
use Rattle.pads_lex.proofs.CutLaws.{no_cut_breaks, one_cut}
use Rattle.pads_module.specs.Modules.{Contents}
use Rattle.pads_nodes.specs.declared.step.Step.{Step}
use Rattle.pads_path.specs.declared.fault.PathFault.{PathFault}
use Rattle.pads_rules.specs.Faults.{breaks, least}
use Rattle.pads_rules.specs.declared.rule.Rule.{Rule}
use Rattle.pads_rules.specs.declared.fault.CheckFault.{CheckFault}
use Rattle.pads_syntax.specs.Trees.{IsExprTree, IsExprTreeFault}
use Rattle.pads_syntax.proofs.Trees as trees
use Rattle.pads_syntax_path.proofs.PathLaws as paths
use Rattle.pads_syntax_path.specs.Trees.{IsPath, IsPathFault}
use Rattle.pads_syntax_path.specs.declared.path.Path.{Path}
use Rattle.pads_question.specs.Questions.{ComesTo, ComesToIf, HasFilter, HasPath, IsAsked, IsFilterFault, IsFilterRefused, IsFilterRefusedIf, IsNotAsked, IsPathRefused, LeadsBy, faults_there, steps_of}
use Rattle.pads_question.specs.declared.asked.Asked.{Asked}
use Rattle.pads_question.specs.declared.fault.FilterError.{FilterError}
use Rattle.pads_question.specs.declared.fault.FilterError.TheVariants as filter
use Rattle.pads_question.specs.declared.fault.PathError.{PathError}
use Rattle.pads_question.specs.declared.fault.PathError.TheVariants as path
use Rattle.pads_question.specs.declared.fault.QuestionFault.{QuestionFault}
use Rattle.pads_question.specs.declared.fault.QuestionFault.TheVariants as question

-- A text is one path, and one filter.
one_path : (text : List ℕ) (one other : Path) → HasPath text one → HasPath text other → one ≡ other
one_path text one other h k =
    let same = one_cut text k.tokens h.tokens k.cut h.cut in
    paths.one_path h.tokens one other h.derived (subst (λ (ts : Tokens). IsPath other ts) same k.derived)

one_filter : (text : List ℕ) (one other : ExprAst) → HasFilter text one → HasFilter text other → one ≡ other
one_filter text one other h k =
    let same = one_cut text k.tokens h.tokens k.cut h.cut in
    trees.one_filter h.tokens one other h.derived (subst (λ (ts : Tokens). IsExprTree other ts) same k.derived)

-- Steps and a fault are never both.
not_both_steps : (found : Result (List Step) PathFault) (steps : List Step) (fault : PathFault) → found ≡ Ok steps → found ≡ Err fault → ⊥
not_both_steps found steps fault h k = let wrong : Ok steps ≡ Err fault = sym h ∙ k in cc

-- A path that leads somewhere isn't refused.
path_not_refused : (m : Contents) (text : List ℕ) (parsed : Path) (steps : List Step) (error : PathError) → LeadsBy m text parsed steps → IsPathRefused m text error → ⊥
path_not_refused m text parsed steps (path.Lexical kind at) h k = no_cut_breaks text h.has.tokens kind at h.has.cut k
path_not_refused m text parsed steps (path.Syntax token at) h k =
    let same = one_cut text k.tokens h.has.tokens k.cut h.has.cut in
    paths.not_both h.has.tokens parsed token h.has.derived (subst (λ (ts : Tokens). IsPathFault ts token) same k.fault)
path_not_refused m text parsed steps (path.Step fault) h k =
    let same = one_path text parsed k.0 h.has k.1 in
    not_both_steps (steps_of m k.0) steps fault (subst (λ (p : Path). steps_of m p ≡ Ok steps) same h.leads) k.2

-- What breaks nothing breaks no rule first.
none_first : (faults : List CheckFault) (rule : Rule) (at : ℕ) → faults ≡ [] → least faults ≡ Some (breaks rule at) → ⊥
none_first faults rule at none first =
    let is : least faults ≡ None = ap least none in
    let wrong : None ≡ Some (breaks rule at) = sym is ∙ first in cc

-- A filter that comes to an expression isn't refused.
module _ (tree : Ast) (m : Contents) (parsed : Path) where
  filter_not_refused : (text : List ℕ) (made : Expr) (error : FilterError) → ComesTo tree m parsed text made → IsFilterRefused tree m parsed text error → ⊥
  filter_not_refused text made (filter.Lexical kind at) h k = no_cut_breaks text h.has.tokens kind at h.has.cut k
  filter_not_refused text made (filter.Syntax token at) h k =
      let same = one_cut text k.tokens h.has.tokens k.cut h.has.cut in
      trees.no_filter_and_fault h.has.tokens h.filter token h.has.derived (subst (λ (ts : Tokens). IsExprTreeFault ts token) same k.fault)
  filter_not_refused text made (filter.Rule rule at) h k =
      let same = one_filter text h.filter k.0 h.has k.1 in
      none_first (faults_there tree m parsed k.0) rule at (subst (λ (e : ExprAst). faults_there tree m parsed e ≡ []) same h.kept) k.2

  filter_not_refused_if : (text : Option (List ℕ)) (made : Option Expr) (error : FilterError) → ComesToIf tree m parsed text made → IsFilterRefusedIf tree m parsed text error → ⊥
  filter_not_refused_if None None error h k = k
  filter_not_refused_if None (Some made) error h k = h
  filter_not_refused_if (Some text) None error h k = h
  filter_not_refused_if (Some text) (Some made) error h k = filter_not_refused text made error h k

pub asked_or_refused : (tree : Ast) (m : Contents) (text : List ℕ) (filter : Option (List ℕ)) (asked : Asked) (fault : QuestionFault) → IsAsked tree m text filter asked → IsNotAsked tree m text filter fault → ⊥
asked_or_refused tree m text filter asked (question.Path error) h k = path_not_refused m text h.parsed asked.steps error h.leads k
asked_or_refused tree m text filter asked (question.Filter error) h k =
    let same = one_path text h.parsed k.parsed h.leads.has k.leads.has in
    filter_not_refused_if tree m k.parsed filter asked.filter error (subst (λ (p : Path). ComesToIf tree m p filter asked.filter) same h.filters) k.refused
