-- The names in a declaration.
use Rattle.std.proofs.Common.{List, ◌∷◌, ◌++◌, Option}
use Rattle.std.specs.List.{flat_map}
use Rattle.pads_lex.specs.declared.token.Keyword.{Keyword}
use Rattle.pads_lex.specs.declared.token.Keyword.TheVariants.{Parray, Penum, Popt, Pstruct, Ptypedef, Punion}
use Rattle.pads_lex.specs.declared.token.Mark.TheVariants.{CloseBrace, CloseBracket, OpenBrace, OpenBracket, Semicolon}
use Rattle.pads_grammar.specs.Grammar.{mark, keyword}
use Rattle.pads_ast.specs.declared.decl.Array.{Array}
use Rattle.pads_ast.specs.declared.decl.Decl.{Decl}
use Rattle.pads_ast.specs.declared.decl.DeclBody.{DeclBody}
use Rattle.pads_ast.specs.declared.decl.DeclBody.TheVariants as decl_form
use Rattle.pads_ast.specs.declared.decl.Enum.{Enum}
use Rattle.pads_ast.specs.declared.decl.Label.{Label}
use Rattle.pads_ast.specs.declared.decl.Opt.{Opt}
use Rattle.pads_ast.specs.declared.decl.Struct.{Struct}
use Rattle.pads_ast.specs.declared.decl.Typedef.{Typedef}
use Rattle.pads_ast.specs.declared.decl.Union.{Union}
use Rattle.pads_ast.specs.declared.decl.UnionBody.{UnionBody}
use Rattle.pads_ast.specs.declared.decl.UnionBody.TheVariants as union_form
use Rattle.pads_ast.specs.declared.expr.Expr.{Expr}
use Rattle.pads_ast.specs.declared.name.Name.{Name}
use Rattle.pads_ast.specs.declared.types.Param.{Param}
use Rattle.pads_ast.specs.NameTokens.{Names, names_in_expr, names_in_option, names_in_type, names_in_param, names_in_branch, names_in_part, names_in_array_option, names_in_union, names_in_constraint, names_in_decl}
use Rattle.pads_ast.specs.Trees.{written, listed}
use Rattle.pads_syntax.specs.Declarations.{signature, heading, struct_decl, union_body, union_decl, sized, array_body, array_decl, enum_decl, typedef_decl, opt_decl, marked, other_body, decl_body, decl, decls}
use Rattle.std.specs.List.{AllByRecursion as Each}
use Rattle.pads_syntax.proofs.SpelledExpressions.{SpelledName, SpelledExpr, keeps-name}
use Rattle.pads_syntax.proofs.Keeps.{IfThere, Keeps, keeps-any, keeps-pair, keeps-apply, keeps-first, keeps-second, keeps-either, keeps-optional, keeps-many}
use Rattle.pads_syntax.proofs.SpelledLists.{IsSpelled, AreSpelled, each-both, each-flat_map, each-map, each-written, each-listed}
use Rattle.pads_syntax.proofs.SpelledParts.{SpelledOption, keeps-part, keeps-condition, keeps-switch, keeps-array-options, keeps-labels, keeps-refinement}
use Rattle.pads_syntax.proofs.SpelledTypes.{SpelledType, keeps-expression, keeps-type, keeps-params, keeps-branch}

-- a name and the parameters behind it
abbrev SpelledSignature : (Name × Option (List Param)) → Type 0
SpelledSignature both = SpelledName both.0 × AreSpelled (flat_map names_in_param (written both.1))

keeps-signature : Keeps signature SpelledSignature
unfolding signature
keeps-signature = record {
  kept = λ both ts is fine.
      let spelled = (keeps-pair keeps-name (keeps-optional keeps-params)).kept both ts is fine in
      (spelled.0, each-written IsSpelled names_in_param both.1 spelled.1);
}

keeps-heading : (k : Keyword) → Keeps (heading k) SpelledSignature
keeps-heading k = keeps-first (mark OpenBrace) (keeps-second (keyword k) keeps-signature)

abbrev SpelledBody : DeclBody → Type 0
SpelledBody d = AreSpelled (names_in_decl d)

spelled-declared : (both : Name × Option (List Param)) (names : Names) → SpelledSignature both → AreSpelled names → AreSpelled (both.0.text ∷ (flat_map names_in_param (written both.1) ++ names))
spelled-declared both names front all = (front.0, each-both IsSpelled (flat_map names_in_param (written both.1)) names front.1 all)

spelled-condition : (o : Option Expr) → IfThere SpelledExpr o → AreSpelled (names_in_option o)
spelled-condition o all = each-listed IsSpelled names_in_expr o all

keeps-struct : Keeps struct_decl (λ (d : Struct). SpelledBody (decl_form.Struct d))
unfolding struct_decl
keeps-struct = keeps-apply (λ (d : Struct). SpelledBody (decl_form.Struct d)) (λ all. record { name = all.0.0.0; params = all.0.0.1; parts = all.0.1; condition = all.1 })
    (keeps-pair (keeps-first (mark CloseBrace) (keeps-pair (keeps-heading Pstruct) (keeps-many keeps-part))) (keeps-optional keeps-condition))
    (λ all spelled. spelled-declared all.0.0 (flat_map names_in_part all.0.1 ++ names_in_option all.1) spelled.0.0
    (each-both IsSpelled (flat_map names_in_part all.0.1) (names_in_option all.1) (each-flat_map IsSpelled names_in_part all.0.1 spelled.0.1) (spelled-condition all.1 spelled.1)))

keeps-union-body : Keeps union_body (λ (u : UnionBody). AreSpelled (names_in_union u))
unfolding union_body
keeps-union-body = keeps-either (keeps-apply (λ (u : UnionBody). AreSpelled (names_in_union u)) union_form.Switch keeps-switch (λ s spelled. spelled))
    (keeps-apply (λ (u : UnionBody). AreSpelled (names_in_union u)) union_form.Branches (keeps-many keeps-branch) (λ branches spelled. each-flat_map IsSpelled names_in_branch branches spelled))

keeps-union : Keeps union_decl (λ (d : Union). SpelledBody (decl_form.Union d))
unfolding union_decl
keeps-union = keeps-apply (λ (d : Union). SpelledBody (decl_form.Union d)) (λ both. record { name = both.0.0; params = both.0.1; body = both.1 })
    (keeps-first (mark CloseBrace) (keeps-pair (keeps-heading Punion) keeps-union-body))
    (λ both spelled. spelled-declared both.0 (names_in_union both.1) spelled.0 spelled.1)

keeps-sized : Keeps sized (λ both. SpelledType both.0 × IfThere SpelledExpr both.1)
unfolding sized
keeps-sized = keeps-first (mark CloseBracket) (keeps-pair (keeps-first (mark OpenBracket) keeps-type) (keeps-optional keeps-expression))

keeps-array-body : Keeps array_body (Each SpelledOption)
unfolding array_body
keeps-array-body = keeps-first (mark CloseBrace) (keeps-first (mark Semicolon) keeps-array-options)

keeps-array : Keeps array_decl (λ (d : Array). SpelledBody (decl_form.Array d))
unfolding array_decl
keeps-array = keeps-apply (λ (d : Array). SpelledBody (decl_form.Array d))
    (λ all. record { name = all.0.0.0.0; params = all.0.0.0.1; of = all.0.0.1.0; size = all.0.0.1.1; options = all.0.1; condition = all.1 })
    (keeps-pair (keeps-pair (keeps-pair (keeps-heading Parray) keeps-sized) keeps-array-body) (keeps-optional keeps-condition))
    (λ all spelled.
    let of = names_in_type all.0.0.1.0 in
    let size = names_in_option all.0.0.1.1 in
    let options = flat_map names_in_array_option all.0.1 in
    let front = each-both IsSpelled of size spelled.0.0.1.0 (spelled-condition all.0.0.1.1 spelled.0.0.1.1) in
    let middle = each-both IsSpelled (of ++ size) options front (each-flat_map IsSpelled names_in_array_option all.0.1 spelled.0.1) in
    spelled-declared all.0.0.0 (of ++ size ++ options ++ names_in_option all.1) spelled.0.0.0
    (each-both IsSpelled (of ++ size ++ options) (names_in_option all.1) middle (spelled-condition all.1 spelled.1)))

keeps-enum : Keeps enum_decl (λ (d : Enum). SpelledBody (decl_form.Enum d))
unfolding enum_decl
keeps-enum = keeps-apply (λ (d : Enum). SpelledBody (decl_form.Enum d)) (λ both. record { name = both.0; labels = both.1 })
    (keeps-first (mark CloseBrace) (keeps-pair (keeps-first (mark OpenBrace) (keeps-second (keyword Penum) keeps-name)) keeps-labels))
    (λ both spelled. (spelled.0, each-map IsSpelled (λ (label : Label). label.name.text) both.1 spelled.1))

keeps-typedef : Keeps typedef_decl (λ (d : Typedef). SpelledBody (decl_form.Typedef d))
unfolding typedef_decl
keeps-typedef = keeps-apply (λ (d : Typedef). SpelledBody (decl_form.Typedef d)) (λ all. record { of = all.0.0; name = all.0.1.0; params = all.0.1.1; constraint = all.1 })
    (keeps-pair (keeps-pair (keeps-second (keyword Ptypedef) keeps-type) keeps-signature) (keeps-optional keeps-refinement))
    (λ all spelled. spelled-declared all.0.1 (names_in_type all.0.0 ++ flat_map names_in_constraint (listed all.1)) spelled.0.1
    (each-both IsSpelled (names_in_type all.0.0) (flat_map names_in_constraint (listed all.1)) spelled.0.0 (each-listed IsSpelled names_in_constraint all.1 spelled.1)))

keeps-opt : Keeps opt_decl (λ (d : Opt). SpelledBody (decl_form.Opt d))
unfolding opt_decl
keeps-opt = keeps-apply (λ (d : Opt). SpelledBody (decl_form.Opt d)) (λ both. record { of = both.0; name = both.1.0; params = both.1.1 })
    (keeps-pair (keeps-second (keyword Popt) keeps-type) keeps-signature)
    (λ both spelled. spelled-declared both.1 (names_in_type both.0) spelled.1 spelled.0)

keeps-other : Keeps other_body SpelledBody
unfolding other_body
keeps-other = keeps-either (keeps-apply SpelledBody decl_form.Enum keeps-enum (λ d spelled. spelled))
    (keeps-either (keeps-apply SpelledBody decl_form.Typedef keeps-typedef (λ d spelled. spelled)) (keeps-apply SpelledBody decl_form.Opt keeps-opt (λ d spelled. spelled)))

keeps-body : Keeps decl_body SpelledBody
unfolding decl_body
keeps-body = keeps-either (keeps-apply SpelledBody decl_form.Struct keeps-struct (λ d spelled. spelled))
    (keeps-either (keeps-apply SpelledBody decl_form.Union keeps-union (λ d spelled. spelled))
    (keeps-either (keeps-apply SpelledBody decl_form.Array keeps-array (λ d spelled. spelled)) keeps-other))

abbrev pub SpelledDecl : Decl → Type 0
SpelledDecl d = SpelledBody d.body

keeps-decl : Keeps decl SpelledDecl
unfolding decl
keeps-decl = keeps-apply SpelledDecl (λ both. record { mark = both.0; body = both.1 }) (keeps-first (mark Semicolon) (keeps-pair (keeps-any marked) keeps-body)) (λ both spelled. spelled.1)

-- Each name in a declaration is spelled as a name.
pub keeps-decls : Keeps decls (Each SpelledDecl)
keeps-decls = keeps-many keeps-decl
