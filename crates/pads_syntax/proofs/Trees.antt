-- The laws of trees, for descriptions and for filters.
use Rattle.std.proofs.Common.{◌≡◌, ap, ℕ, List, Result, Ok, Err, ◌⊎◌, inl, inr, refl}
use Rattle.pads_lex.specs.Answers.{EndsLast, HasSpelledNames}
use Rattle.pads_grammar.specs.Kinds.{Tokens, is}
use Rattle.pads_grammar.specs.declared.kind.Kind.TheVariants as kind
use Rattle.pads_grammar.specs.Grammar.{Decides}
use Rattle.pads_grammar.specs.Whole.{Whole}
use Rattle.pads_grammar.proofs.Disjoint.{apart_by}
use Rattle.pads_ast.proofs.SameTrees.{same-tree}
use Rattle.pads_ast.specs.declared.decl.Ast.{Ast}
use Rattle.pads_ast.specs.declared.decl.Decl.{Decl}
use Rattle.pads_ast.specs.declared.decl.ExprAst.{ExprAst}
use Rattle.pads_syntax_expr.proofs.ExprDecides.{any_on}
use Rattle.pads_syntax_parts.specs.Types.{expression}
use Rattle.pads_syntax_parts.proofs.Outermost.{expression_ok}
use Rattle.pads_syntax.specs.Declarations.{decls}
use Rattle.pads_syntax.proofs.DeclDecides.{decls_ok}
use Rattle.pads_syntax.specs.Trees.{description, filter, IsTree, IsTreeFault, IsExprTree, IsExprTreeFault}
use Rattle.pads_syntax.specs.Answers.{Answers}
use Rattle.pads_syntax.specs.declared.fault.SyntaxFault.{SyntaxFault}
use Rattle.pads_value.specs.Refusals.{Gives}
use Rattle.pads_value.specs.declared.memory.Refusal.{Refusal}
use Rattle.pads_value.specs.declared.memory.Refusal.TheVariants as refusal
use Rattle.pads_syntax.proofs.SpelledWhole.{tree-spelled}
use Rattle.pads_syntax.proofs.TreeLaws.{one, one_fault, not_both, tree_or_fault}

-- Nothing follows a filter but its end.
pub filter_ok : Decides expression (is kind.End)
filter_ok = expression_ok (is kind.End) (apart_by any_on (is kind.End) refl)

pub one_description : (ts : Tokens) (tree other : Ast) → IsTree tree ts → IsTree other ts → tree ≡ other
one_description ts tree other v w =
    let same = one decls description decls_ok ts (tree.decls, tree.end) (other.decls, other.end) v w in
    same-tree tree other (ap (λ (both : List Decl × ℕ). both.0) same) (ap (λ (both : List Decl × ℕ). both.1) same)

pub one_filter : (ts : Tokens) (tree other : ExprAst) → IsExprTree tree ts → IsExprTree other ts → tree ≡ other
one_filter ts tree other v w = one expression filter filter_ok ts tree other v w

pub one_tree_fault : (ts : Tokens) (m n : ℕ) → IsTreeFault ts m → IsTreeFault ts n → m ≡ n
one_tree_fault ts m n f k = one_fault decls description decls_ok ts m n f k

pub one_filter_fault : (ts : Tokens) (m n : ℕ) → IsExprTreeFault ts m → IsExprTreeFault ts n → m ≡ n
one_filter_fault ts m n f k = one_fault expression filter filter_ok ts m n f k

pub no_tree_and_fault : (ts : Tokens) (tree : Ast) (at : ℕ) → IsTree tree ts → IsTreeFault ts at → ⊥
no_tree_and_fault ts tree at w f = not_both decls description decls_ok ts (tree.decls, tree.end) at w f

pub no_filter_and_fault : (ts : Tokens) (tree : ExprAst) (at : ℕ) → IsExprTree tree ts → IsExprTreeFault ts at → ⊥
no_filter_and_fault ts tree at w f = not_both expression filter filter_ok ts tree at w f

-- What tokens derive is a tree, where their names are spelled as names.
abbrev pub tree_of : (ts : Tokens) → HasSpelledNames ts → (made : List Decl × ℕ) → Whole decls description made ts → Ast
tree_of ts names made whole = record { decls = made.0; end = made.1; spelled = tree-spelled ts made whole names }

pub description_or_fault : (ts : Tokens) → EndsLast ts → HasSpelledNames ts → ((tree : Ast) × IsTree tree ts) ⊎ ((at : ℕ) × IsTreeFault ts at)
description_or_fault ts h names = go (tree_or_fault decls description decls_ok ts h)
  where
    go : ((made : List Decl × ℕ) × Whole decls description made ts) ⊎ ((at : ℕ) × IsTreeFault ts at) → ((tree : Ast) × IsTree tree ts) ⊎ ((at : ℕ) × IsTreeFault ts at)
    go (inl (made, whole)) = inl (tree_of ts names made whole, whole)
    go (inr fault) = inr fault

pub filter_or_fault : (ts : Tokens) → EndsLast ts → ((tree : ExprAst) × IsExprTree tree ts) ⊎ ((at : ℕ) × IsExprTreeFault ts at)
filter_or_fault ts h = tree_or_fault expression filter filter_ok ts h

-- A call that gives a tree of the tokens gives the only one, and one that tells a fault has none to give.
pub only_given : {E : Type 0} (ts : Tokens) (given tree : Ast) → IsTree given ts → IsTree tree ts → ◌≡◌ {A = Result Ast E} (Ok tree) (Ok given)
only_given ts given tree v w = ap Ok (one_description ts tree given w v)

pub none_given : (ts : Tokens) (r : Refusal SyntaxFault) → Answers decls description ts (Err r) → (tree : Ast) → IsTree tree ts → Gives {T = Ast} (Err r) (Ok tree)
none_given ts (refusal.Fault fault) a tree w = absurd (no_tree_and_fault ts tree fault.token w a.0)
none_given ts refusal.Memory a tree w = tt
