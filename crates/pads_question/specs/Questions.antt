-- What a question asks of the records of a description: the steps to which its path leads, and the expression of its filter.
-- Why it is refused: of several reasons the first of these is told, of the path before the filter. Its text breaks the rules of
-- tokens; its tokens derive nothing; a step names no part, or the filter breaks rules.
use Rattle.std.specs.Prelude.{◌≡◌, ℕ, List, [], Option, Some, None, Result, Ok, Err}
use Rattle.pads_ast.specs.declared.decl.Ast.{Ast}
use Rattle.pads_ast.specs.declared.decl.ExprAst.{ExprAst}
use Rattle.pads_expr.specs.declared.expr.Expr.{Expr}
use Rattle.pads_question.specs.Filters.{filter_faults, filter_of, node_sort}
use Rattle.pads_grammar.specs.Kinds.{Tokens}
use Rattle.pads_lex.specs.Cut.{BreaksAt, IsCut}
use Rattle.pads_module.specs.Modules.{Contents}
use Rattle.pads_nodes.specs.declared.step.Step.{Step}
use Rattle.pads_path.specs.Resolving.{body_form, resolved_from}
use Rattle.pads_path.specs.declared.fault.PathFault.{PathFault}
use Rattle.pads_rules.specs.Faults.{breaks, least}
use Rattle.pads_rules.specs.Resolving.{declared}
use Rattle.pads_rules.specs.declared.fault.CheckFault.{CheckFault}
use Rattle.pads_rules.specs.declared.expr_sort.ExprSort.{ExprSort}
use Rattle.pads_syntax.specs.Trees.{IsExprTree, IsExprTreeFault, StandsAt}
use Rattle.pads_syntax_path.specs.Trees.{IsPath, IsPathFault}
use Rattle.pads_syntax_path.specs.declared.path.Path.{Path}
use Rattle.pads_question.specs.declared.asked.Asked.{Asked}
use Rattle.pads_question.specs.declared.fault.FilterError.{FilterError}
use Rattle.pads_question.specs.declared.fault.FilterError.TheVariants as filter
use Rattle.pads_question.specs.declared.fault.PathError.{PathError}
use Rattle.pads_question.specs.declared.fault.PathError.TheVariants as path
use Rattle.pads_question.specs.declared.fault.QuestionFault.{QuestionFault}
use Rattle.pads_question.specs.declared.fault.QuestionFault.TheVariants as question

-- The tokens of a text derive this path,
pub record HasPath (text : List ℕ) (parsed : Path) : Type 0 where
  pub tokens : Tokens
  pub cut : IsCut 0 text tokens
  pub derived : IsPath parsed tokens

-- and those of a text this tree of a filter.
pub record HasFilter (text : List ℕ) (parsed : ExprAst) : Type 0 where
  pub tokens : Tokens
  pub cut : IsCut 0 text tokens
  pub derived : IsExprTree parsed tokens

-- The token of that number, which stands at that byte, is the first with which no path goes on,
pub record IsPathSyntax (text : List ℕ) (token at : ℕ) : Type 0 where
  pub tokens : Tokens
  pub cut : IsCut 0 text tokens
  pub fault : IsPathFault tokens token
  pub place : StandsAt tokens token at

-- or no filter.
pub record IsFilterSyntax (text : List ℕ) (token at : ℕ) : Type 0 where
  pub tokens : Tokens
  pub cut : IsCut 0 text tokens
  pub fault : IsExprTreeFault tokens token
  pub place : StandsAt tokens token at

-- By the module of a description:
module _ (m : Contents) where
  -- where the steps of a path lead from the body of the record type, or the first step that names no part
  abbrev pub steps_of : Path → Result (List Step) PathFault
  steps_of parsed = resolved_from m.decls m.names 1 (body_form m.decls m.shape.each) parsed.steps

  -- The text is a path, which leads by these steps.
  pub record LeadsBy (text : List ℕ) (parsed : Path) (steps : List Step) : Type 0 where
    pub has : HasPath text parsed
    pub leads : steps_of parsed ≡ Ok steps

  abbrev pub IsPathRefused : List ℕ → PathError → Type 0
  IsPathRefused text (path.Lexical kind at) = BreaksAt 0 text kind at
  IsPathRefused text (path.Syntax token at) = IsPathSyntax text token at
  IsPathRefused text (path.Step fault) = (parsed : Path) × HasPath text parsed × (steps_of parsed ≡ Err fault)

-- By its tree as well, and by a path:
module _ (tree : Ast) (m : Contents) (parsed : Path) where
  -- the sort of the values to which the path leads
  abbrev pub sort_there : ExprSort
  sort_there = node_sort (declared tree.decls) m.shape.each parsed.steps

  -- the violations of a filter of these values
  abbrev pub faults_there : ExprAst → List CheckFault
  faults_there e = filter_faults (declared tree.decls) sort_there e.expr

  -- The text is a filter of these values, and comes to this expression.
  pub record ComesTo (text : List ℕ) (made : Expr) : Type 0 where
    pub filter : ExprAst
    pub has : HasFilter text filter
    pub kept : faults_there filter ≡ []
    pub made_is : made ≡ filter_of tree.decls (declared tree.decls) sort_there filter.expr

  abbrev pub IsFilterRefused : List ℕ → FilterError → Type 0
  IsFilterRefused text (filter.Lexical kind at) = BreaksAt 0 text kind at
  IsFilterRefused text (filter.Syntax token at) = IsFilterSyntax text token at
  IsFilterRefused text (filter.Rule rule at) = (e : ExprAst) × HasFilter text e × (least (faults_there e) ≡ Some (breaks rule at))

  -- The same where there may be no filter.
  abbrev pub ComesToIf : Option (List ℕ) → Option Expr → Type 0
  ComesToIf None None = Unit {0}
  ComesToIf None (Some made) = ⊥
  ComesToIf (Some text) None = ⊥
  ComesToIf (Some text) (Some made) = ComesTo text made

  abbrev pub IsFilterRefusedIf : Option (List ℕ) → FilterError → Type 0
  IsFilterRefusedIf None error = ⊥
  IsFilterRefusedIf (Some text) error = IsFilterRefused text error

-- By both and the texts of a path and, maybe, of a filter:
module _ (tree : Ast) (m : Contents) (path : List ℕ) (filter : Option (List ℕ)) where
  -- what is asked,
  pub record IsAsked (asked : Asked) : Type 0 where
    pub parsed : Path
    pub leads : LeadsBy m path parsed asked.steps
    pub filters : ComesToIf tree m parsed filter asked.filter

  -- the path is well, and the filter isn't,
  pub record IsFilterFault (error : FilterError) : Type 0 where
    pub parsed : Path
    pub steps : List Step
    pub leads : LeadsBy m path parsed steps
    pub refused : IsFilterRefusedIf tree m parsed filter error

  -- why nothing is asked.
  abbrev pub IsNotAsked : QuestionFault → Type 0
  IsNotAsked (question.Path error) = IsPathRefused m path error
  IsNotAsked (question.Filter error) = IsFilterFault error
