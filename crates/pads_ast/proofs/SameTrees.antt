-- Trees are the same where their declarations and their ends are.
use Rattle.std.proofs.Common.{◌≡◌, subst, ap, ℕ, true, List}
use Rattle.std.proofs.Props.{props}
use Rattle.std.specs.List.{list_all}
use Rattle.pads_lex.specs.Spelling.{is_name}
use Rattle.pads_ast.specs.NameTokens.{names_in}
use Rattle.pads_ast.specs.declared.decl.Ast.{Ast}
use Rattle.pads_ast.specs.declared.decl.Decl.{Decl}

abbrev AreSpelled : List Decl → Type 0
AreSpelled decls = list_all is_name (names_in decls) ≡ true

once : (decls : List Decl) → IsProp (AreSpelled decls)
once decls = hlevel props

abbrev made : (decls : List Decl) (end : ℕ) → AreSpelled decls → Ast
made decls end spelled = record { decls = decls; end = end; spelled = spelled }

pub same-tree : (one other : Ast) → one.decls ≡ other.decls → one.end ≡ other.end → one ≡ other
same-tree one other same ends =
    let Same : List Decl → Type 0 = λ decls. (spelled : AreSpelled decls) → one ≡ made decls other.end spelled in
    let here : Same one.decls = λ spelled. subst (λ end. one ≡ made one.decls end spelled) ends (ap (made one.decls one.end) (once one.decls one.spelled spelled)) in
    subst Same same here other.spelled
