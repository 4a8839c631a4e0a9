-- Why a description's text is refused. Of several reasons the first of these is told: the text is too long; it breaks the
-- rules of tokens; its tokens derive no tree; its tree breaks rules.
use Rattle.std.specs.Prelude.{◌≡◌, ℕ, ◌<◌, ◌≤◌, List, Some, length}
use Rattle.pads_ast.specs.declared.decl.Ast.{Ast}
use Rattle.pads_grammar.specs.Kinds.{Tokens}
use Rattle.pads_lex.specs.Cut.{BreaksAt}
use Rattle.pads_lex.specs.declared.fault.LexKind.{LexKind}
use Rattle.pads_rules.specs.declared.rule.Rule.{Rule}
use Rattle.pads_rules.specs.Faults.{breaks, least}
use Rattle.pads_rules.specs.Violations.{violations}
use Rattle.pads_syntax.specs.Trees.{IsTreeFault, StandsAt}
use Rattle.pads_describe.specs.declared.verdict.Verdict.{Verdict}
use Rattle.pads_describe.specs.declared.verdict.Verdict.TheVariants as verdict
use Rattle.pads_describe.specs.Trees.{HasTokens, HasTree, longest}

-- It first breaks the rules of tokens there, and so.
pub record IsLexical (text : List ℕ) (kind : LexKind) (at : ℕ) : Type 0 where
  pub short : length text ≤ longest
  pub broken : BreaksAt 0 text kind at

-- The token of that number, which stands at that byte, is the first with which no tree goes on.
pub record IsSyntax (text : List ℕ) (token at : ℕ) : Type 0 where
  pub tokens : Tokens
  pub has_tokens : HasTokens text tokens
  pub fault : IsTreeFault tokens token
  pub place : StandsAt tokens token at

-- Its tree breaks that rule there, and that is the violation told first.
pub record IsRule (text : List ℕ) (rule : Rule) (at : ℕ) : Type 0 where
  pub tree : Ast
  pub has_tree : HasTree text tree
  pub first : least (violations tree) ≡ Some (breaks rule at)

abbrev pub IsRefused : List ℕ → Verdict → Type 0
IsRefused text verdict.TooLong = longest < length text
IsRefused text (verdict.Lexical kind at) = IsLexical text kind at
IsRefused text (verdict.Syntax token at) = IsSyntax text token at
IsRefused text (verdict.Rule rule at) = IsRule text rule at
