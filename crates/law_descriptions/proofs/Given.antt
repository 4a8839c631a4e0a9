-- What holds of each name that a declaration is written with holds of each name that it gives when it is resolved,
-- where it holds of `@`, `some` and `none`.
use Rattle.std.proofs.Common.{◌≡◌, sym, ap, subst, ℕ, pos, Bool, true, false, if◌then◌else◌, List, [], ◌∷◌, ◌++◌, map, flat_map, Option, Some, None, is_some, option_map}
use Rattle.std.proofs.lemmas.List.Concat.{flat_map-append}
use Rattle.pads_ast.specs.declared.decl.Array.{Array as WrittenArray}
use Rattle.pads_ast.specs.declared.decl.ArrayOption.{ArrayOption as WrittenOption}
use Rattle.pads_ast.specs.declared.decl.ArrayOption.TheVariants as written_option
use Rattle.pads_ast.specs.declared.decl.Case.{Case as WrittenCase}
use Rattle.pads_ast.specs.declared.decl.Constraint.{Constraint as WrittenConstraint}
use Rattle.pads_ast.specs.declared.decl.Decl.{Decl as WrittenDecl}
use Rattle.pads_ast.specs.declared.decl.DeclBody.{DeclBody as WrittenBody}
use Rattle.pads_ast.specs.declared.decl.DeclBody.TheVariants as written_body
use Rattle.pads_ast.specs.declared.decl.Part.{Part as WrittenPart}
use Rattle.pads_ast.specs.declared.decl.Part.TheVariants as written_part
use Rattle.pads_ast.specs.declared.decl.Struct.{Struct as WrittenStruct}
use Rattle.pads_ast.specs.declared.decl.Switch.{Switch as WrittenSwitch}
use Rattle.pads_ast.specs.declared.decl.Typedef.{Typedef as WrittenTypedef}
use Rattle.pads_ast.specs.declared.decl.UnionBody.{UnionBody}
use Rattle.pads_ast.specs.declared.decl.UnionBody.TheVariants as written_union
use Rattle.pads_expr.specs.declared.expr.BinOp.{BinOp}
use Rattle.pads_ast.specs.declared.expr.Expr.{Expr as Tree, Expr-F as Tree-F, fold-roll-Expr as fold-roll-Tree, roll-Expr as roll-Tree, map-Expr as map-Tree}
use Rattle.pads_ast.specs.declared.expr.Expr.TheShapes.{former-Expr-Chain-1, former-Expr-Post-1}
use Rattle.pads_ast.specs.declared.expr.Link.{Link}
use Rattle.pads_ast.specs.declared.expr.Step.{Step}
use Rattle.pads_ast.specs.declared.expr.Step.TheVariants as step_form
use Rattle.pads_ast.specs.declared.expr.UnaryOperator.{UnaryOperator}
use Rattle.pads_ast.specs.declared.expr.UnaryOperator.TheVariants as unary_form
use Rattle.pads_ast.specs.declared.types.Arg.{Arg}
use Rattle.pads_ast.specs.declared.types.Arg.TheVariants as arg
use Rattle.pads_ast.specs.declared.types.Branch.{Branch as WrittenBranch}
use Rattle.pads_ast.specs.declared.types.Param.{Param as WrittenParam}
use Rattle.pads_ast.specs.declared.types.Type.{«Type»}
use Rattle.pads_rules.specs.declared.sort.Sort.{Sort}
use Rattle.pads_resolution.specs.declared.decl.Role.{Role}
use Rattle.pads_resolution.specs.declared.decl.Role.TheVariants as role
use Rattle.pads_resolution.specs.declared.expr.Expr.{Expr}
use Rattle.pads_resolution.specs.declared.visible.Known.{Known}
use Rattle.pads_resolution.specs.declared.visible.ResolvedExpr.{ResolvedExpr}
use Rattle.pads_resolution.specs.declared.visible.Stands.TheVariants as stands
use Rattle.pads_resolution.specs.Bodies.{expr_at, option_at, branch_at, part_at, parts_at, struct_at, case_at, switch_at, union_at, array_option_at, array_at, constraint_at, typedef_at, body_at}
use Rattle.pads_resolution.specs.Expressions as made
use Rattle.pads_resolution.specs.Expressions.{sort_known, sort_or_unknown, meaning_of, name_found, is_struct, member_expr, expression, expr_of, resolve_form}
use Rattle.pads_resolution.specs.Numbers.{choice_number, member_number}
use Rattle.pads_resolution.specs.Resolution.{role_of, params_scope, decl_at}
use Rattle.pads_resolution.specs.Scopes.{NameScope as Names, known_in, hiding, names_after, fields_after, array_scope}
use Rattle.pads_resolution.specs.Types.{arg_exprs, args, type_at, param_of}
use Rattle.pads_rules.specs.Members.{member, element}
use Rattle.pads_ast.specs.NameTokens.{names_in_step, names_in_form, names_in_expr, names_in_option, names_in_arg, names_in_type, names_in_param, names_in_branch, names_in_part, names_in_array_option, names_in_union, names_in_constraint, names_in_body, names_in_decl}
use Rattle.pads_rules.specs.Pieces.{Site, sight}
use Rattle.pads_rules.specs.Resolving.{Sight}
use Rattle.pads_rules.specs.Sorts as rules
use Rattle.pads_ast.specs.Trees.{args_of, params_of, listed, points_of}
use Rattle.pads_rules.specs.declared.declared.Declared.{Declared}
use Rattle.pads_ast.proofs.ExprNames.{names_in_expr-roll}
use Rattle.pads_trans.specs.Met.{in_expr, in_option, in_type, in_branch, in_part, in_where, in_struct, in_case, in_default, in_switch, in_union, in_array_option, in_array, in_constraint, in_typedef, in_body, in_read_body, in_decl}
use Rattle.pads_trans.specs.Names.{Name, at_sign, some_name, none_name}
use Rattle.pads_trans.proofs.MetRolls.{met-Number, met-Word, met-Truth, met-Name, met-Part, met-Branch, met-Index, met-Pis, met-Plen, met-Minus, met-Not, met-Binary, met-Pforall}
use Rattle.law_descriptions.specs.WellSorted.{Each}
use Rattle.law_descriptions.proofs.Lists.{each-left, each-right}
use Rattle.law_descriptions.proofs.WrittenTrees.{InLink, InStep, Inside, all-layers}

pub each-both : {A : Type 0} (P : A → Type 0) (xs ys : List A) → Each P xs → Each P ys → Each P (xs ++ ys)
each-both P [] ys some more = more
each-both P (x ∷ xs) ys some more = (some.0, each-both P xs ys some.1 more)

module _ (P : Name → Type 0) (whole_is : P at_sign) (some_is : P some_name) (none_is : P none_name) where
  abbrev All : List Name → Type 0
  All = Each P

  both : (xs ys : List Name) → All xs → All ys → All (xs ++ ys)
  both = each-both P

  left : (xs ys : List Name) → All (xs ++ ys) → All xs
  left = each-left P

  right : (xs ys : List Name) → All (xs ++ ys) → All ys
  right = each-right P

  module _ (decls : List WrittenDecl) (env : List Declared) where
    abbrev Given : ResolvedExpr → Type 0
    Given r = All (in_expr r.expr)

    -- one operator, name or index
    binary-given : (op : BinOp) (l r : ResolvedExpr) → Given l → Given r → Given (made.binary op l r)
    unfolding made.binary
    binary-given op l r one other = subst All (sym (met-Binary op l.expr r.expr)) (both (in_expr l.expr) (in_expr r.expr) one other)

    unary-given : (op : UnaryOperator) (r : ResolvedExpr) → Given r → Given (made.unary op r)
    unfolding made.unary
    unary-given unary_form.Minus r given = subst All (sym (met-Minus r.expr)) given
    unary-given unary_form.Not r given = subst All (sym (met-Not r.expr)) given

    member-by : (of_struct : Bool) (e : Expr) (number : ℕ) (sort : Sort) → All (in_expr e) → All (in_expr (member_expr of_struct e number sort))
    member-by true e number sort given = subst All (sym (met-Part e number sort)) given
    member-by false e number sort given = subst All (sym (met-Branch e number sort)) given

    member-given : (r : ResolvedExpr) (name : List ℕ) → Given r → Given (made.member_of decls env r name)
    unfolding made.member_of
    member-given r name given =
        member-by (is_struct r.sort) r.expr (member_number decls env r.sort name) (sort_known (sort_or_unknown (member env r.sort name))) given

    index-given : (r i : ResolvedExpr) → Given r → Given i → Given (made.indexed env r i)
    unfolding made.indexed
    index-given r i one other =
        subst All (sym (met-Index r.expr i.expr (sort_known (element env r.sort)))) (both (in_expr r.expr) (in_expr i.expr) one other)

    pis-given : (r : ResolvedExpr) (name : List ℕ) → Given r → Given (made.pis env r name)
    unfolding made.pis
    pis-given r name given = subst All (sym (met-Pis r.expr (choice_number env r.sort name))) given

    plen-given : (r : ResolvedExpr) → Given r → Given (made.plen r)
    unfolding made.plen
    plen-given r given = subst All (sym (met-Plen r.expr)) given

    pforall-given : (name : List ℕ) (l h b : ResolvedExpr) → P name → Given l → Given h → Given b → Given (made.pforall name l h b)
    unfolding made.pforall
    pforall-given name l h b own one other inner =
        subst All (sym (met-Pforall name l.expr h.expr b.expr))
        (own, both (in_expr l.expr ++ in_expr h.expr) (in_expr b.expr) (both (in_expr l.expr) (in_expr h.expr) one other) inner)

    found-given : (name : List ℕ) (o : Option Known) → Given (name_found name o)
    found-given name (Some known) = subst All (sym (met-Name (meaning_of name known.stands) (sort_known known.sort))) tt
    found-given name None = subst All (sym (met-Name (meaning_of name made.unknown_name.stands) (sort_known made.unknown_name.sort))) tt

    name-given : (names : Names) (name : List ℕ) → Given (made.name_in names name)
    unfolding made.name_in
    name-given names name = found-given name (known_in names name)

    -- rows of operators, and of names and indexes
    abbrev IsGiven : Tree → Type 0
    IsGiven e = (names : Names) → All (names_in_expr e) → Given (expression decls env e names)

    abbrev names_in_links : List (Link Tree) → List Name
    names_in_links links = flat_map (λ link. link.operand) ((former-Expr-Chain-1).map Tree (List Name) names_in_expr links)

    abbrev names_in_steps : List (Step Tree) → List Name
    names_in_steps steps = flat_map names_in_step ((former-Expr-Post-1).map Tree (List Name) names_in_expr steps)

    chained-given : (names : Names) (l : ResolvedExpr) (links : List (Link Tree)) → Given l → Each (InLink IsGiven) links → All (names_in_links links)
        → Given (made.chained l ((former-Expr-Chain-1).map Tree (Names → ResolvedExpr) (expression decls env) links) names)
    chained-given names l [] given each written = given
    chained-given names l (link ∷ links) given each written =
        let r = expression decls env link.operand names in
        chained-given names (made.binary link.operator l r) links
        (binary-given link.operator l r given (each.0 names (left (names_in_expr link.operand) (names_in_links links) written))) each.1
        (right (names_in_expr link.operand) (names_in_links links) written)

    posted-given : (names : Names) (r : ResolvedExpr) (steps : List (Step Tree)) → Given r → Each (InStep IsGiven) steps → All (names_in_steps steps)
        → Given (made.posted decls env r ((former-Expr-Post-1).map Tree (Names → ResolvedExpr) (expression decls env) steps) names)
    posted-given names r [] given each written = given
    posted-given names r (step_form.Name name ∷ steps) given each written =
        posted-given names (made.member_of decls env r name.text) steps (member-given r name.text given) each.1 written.1
    posted-given names r (step_form.Index at index ∷ steps) given each written =
        let i = expression decls env index names in
        posted-given names (made.indexed env r i) steps
        (index-given r i given (each.0 names (left (names_in_expr index) (names_in_steps steps) written))) each.1
        (right (names_in_expr index) (names_in_steps steps) written)

    -- one layer
    abbrev resolved_layer : Tree-F Tree → Names → ResolvedExpr
    resolved_layer layer names = resolve_form decls env (map-Tree Tree (Names → ResolvedExpr) (expression decls env) layer) names

    abbrev GivenLayer : Tree-F Tree → Type 0
    GivenLayer layer = (names : Names) → All (names_in_form (map-Tree Tree (List Name) names_in_expr layer)) → Given (resolved_layer layer names)

    layer : (layer : Tree-F Tree) → Inside IsGiven layer → GivenLayer layer
    layer (Tree-F.Chain first links) each = λ names written.
        chained-given names (expression decls env first names) links (each.0 names (left (names_in_expr first) (names_in_links links) written)) each.1
        (right (names_in_expr first) (names_in_links links) written)
    layer (Tree-F.Unary op at operand) each = λ names written. unary-given op (expression decls env operand names) (each names written)
    layer (Tree-F.Post base steps) each = λ names written.
        posted-given names (expression decls env base names) steps (each.0 names (left (names_in_expr base) (names_in_steps steps) written)) each.1
        (right (names_in_expr base) (names_in_steps steps) written)
    layer (Tree-F.Number value at) each = λ names written. subst All (sym (met-Number (pos value))) tt
    layer (Tree-F.Word word) each = λ names written. subst All (sym (met-Word (points_of word))) tt
    layer (Tree-F.Truth value at) each = λ names written. subst All (sym (met-Truth value)) tt
    layer (Tree-F.Name name) each = λ names written. name-given names name.text
    layer (Tree-F.Paren at inner) each = λ names written. each names written
    layer (Tree-F.Pis at value name) each = λ names written.
        pis-given (expression decls env value names) name.text (each names (left (names_in_expr value) (name.text ∷ []) written))
    layer (Tree-F.Plen at value) each = λ names written. plen-given (expression decls env value names) (each names written)
    layer (Tree-F.Pforall at name low high body) each = λ names written.
        let inside : Names = hiding name.text stands.Variable rules.num names in
        let bounds = left (names_in_expr low ++ names_in_expr high) (names_in_expr body) written.1 in
        pforall-given name.text (expression decls env low names) (expression decls env high names) (expression decls env body inside) written.0
        (each.0 names (left (names_in_expr low) (names_in_expr high) bounds))
        (each.1 names (right (names_in_expr low) (names_in_expr high) bounds))
        (each.2 inside (right (names_in_expr low ++ names_in_expr high) (names_in_expr body) written.1))

    expression-roll : (layer : Tree-F Tree) (names : Names) → expression decls env (roll-Tree layer) names ≡ resolved_layer layer names
    unfolding expression
    expression-roll layer names = ap (λ (f : Names → ResolvedExpr). f names) (fold-roll-Tree (Names → ResolvedExpr) (resolve_form decls env) layer)

    rolled : (tree : Tree-F Tree) → Inside IsGiven tree → IsGiven (roll-Tree tree)
    rolled tree each names written =
        subst Given (sym (expression-roll tree names)) (layer tree each names (subst All (names_in_expr-roll tree) written))

    expression-given : (e : Tree) → IsGiven e
    expression-given e = all-layers IsGiven rolled e

    args-given : (names : Names) (written : List Arg) → All (flat_map names_in_arg written) → All (flat_map in_expr (flat_map (arg_exprs decls env names) written))
    unfolding expr_of
    args-given names [] given = tt
    args-given names (arg.Expr e ∷ rest) given =
        both (in_expr (expression decls env e names).expr) (flat_map in_expr (flat_map (arg_exprs decls env names) rest))
        (expression-given e names (left (names_in_expr e) (flat_map names_in_arg rest) given))
        (args-given names rest (right (names_in_expr e) (flat_map names_in_arg rest) given))
    args-given names (arg.Peor at ∷ rest) given = args-given names rest given

  optional-given : (b : Bool) → All (if b then some_name ∷ none_name ∷ [] else [])
  optional-given true = (some_is, (none_is, tt))
  optional-given false = tt

  module _ (site : Site) where
    expr-given : (names : Names) (e : Tree) → All (names_in_expr e) → All (in_expr (expr_at site names e))
    unfolding expr_at expr_of
    expr-given names e written = expression-given site.decls site.env e names written

    option-given : (names : Names) (o : Option Tree) → All (names_in_option o) → All (in_option (option_at site names o))
    unfolding in_option
    option-given names None written = tt
    option-given names (Some e) written = expr-given names e (left (names_in_expr e) [] written)

    type-given : (names : Names) (t : «Type») → All (names_in_type t) → All (in_type (type_at site names t))
    unfolding in_type type_at args
    type-given names t written =
        both (if is_some t.optional then some_name ∷ none_name ∷ [] else []) (flat_map in_expr (flat_map (arg_exprs site.decls site.env names) (args_of t)))
        (optional-given (is_some t.optional)) (args-given site.decls site.env names (args_of t) written.1)

    branch-given : (names : Names) (f : WrittenBranch) → All (names_in_branch f) → All (in_branch (branch_at site names f))
    unfolding in_branch branch_at
    branch-given names f written =
        let behind = right (names_in_type f.of) (f.name.text ∷ names_in_option f.constraint) written in
        both (in_type (type_at site names f.of)) _ (type-given names f.of (left (names_in_type f.of) (f.name.text ∷ names_in_option f.constraint) written))
        (behind.0, option-given _ f.constraint behind.1)

    branches-given : (names : Names) (fs : List WrittenBranch) → All (flat_map names_in_branch fs) → All (flat_map in_branch (map (branch_at site names) fs))
    branches-given names [] written = tt
    branches-given names (f ∷ fs) written =
        both (in_branch (branch_at site names f)) (flat_map in_branch (map (branch_at site names) fs))
        (branch-given names f (left (names_in_branch f) (flat_map names_in_branch fs) written))
        (branches-given names fs (right (names_in_branch f) (flat_map names_in_branch fs) written))

    -- structs
    part-given : (names : Names) (p : WrittenPart) → All (names_in_part p) → All (in_part (part_at site names p))
    unfolding in_part part_at
    part-given names (written_part.Literal l) written = tt
    part-given names (written_part.Pcompute of name value) written =
        let behind = right (names_in_type of) (name.text ∷ names_in_expr value) written in
        (behind.0, expr-given names value behind.1)
    part-given names (written_part.Field f) written = branch-given names f written

    parts-given : (names : Names) (ps : List WrittenPart) → All (flat_map names_in_part ps) → All (flat_map in_part (parts_at site names ps))
    parts-given names [] written = tt
    parts-given names (p ∷ ps) written =
        let behind = names_after (sight site) names p in
        both (in_part (part_at site names p)) (flat_map in_part (parts_at site behind ps))
        (part-given names p (left (names_in_part p) (flat_map names_in_part ps) written))
        (parts-given behind ps (right (names_in_part p) (flat_map names_in_part ps) written))

    where-given : (names : Names) (o : Option Tree) → All (names_in_option o) → All (in_where (option_at site names o))
    unfolding in_where
    where-given names None written = tt
    where-given names (Some e) written = (whole_is, expr-given names e (left (names_in_expr e) [] written))

    struct-given : (names : Names) (d : WrittenStruct) → All (flat_map names_in_part d.parts ++ names_in_option d.condition) → All (in_struct (struct_at site names d))
    unfolding in_struct struct_at
    struct-given names d written =
        both (flat_map in_part (parts_at site names d.parts)) _
        (parts-given names d.parts (left (flat_map names_in_part d.parts) (names_in_option d.condition) written))
        (where-given (fields_after (sight site) names 0 d.parts) d.condition (right (flat_map names_in_part d.parts) (names_in_option d.condition) written))

    -- unions
    cases-given : (names : Names) (cases : List WrittenCase) → All (flat_map names_in_branch (map (λ (c : WrittenCase). c.branch) cases)) → All (flat_map in_case (map (case_at site names) cases))
    unfolding in_case case_at
    cases-given names [] written = tt
    cases-given names (c ∷ cases) written =
        both (in_branch (branch_at site names c.branch)) (flat_map in_case (map (case_at site names) cases))
        (branch-given names c.branch (left (names_in_branch c.branch) (flat_map names_in_branch (map (λ (c : WrittenCase). c.branch) cases)) written))
        (cases-given names cases (right (names_in_branch c.branch) (flat_map names_in_branch (map (λ (c : WrittenCase). c.branch) cases)) written))

    default-given : (names : Names) (o : Option WrittenBranch) → All (flat_map names_in_branch (listed o)) → All (in_default (option_map (branch_at site names) o))
    unfolding in_default
    default-given names None written = tt
    default-given names (Some f) written = branch-given names f (left (names_in_branch f) [] written)

    switch-given : (names : Names) (s : WrittenSwitch) → All (names_in_expr s.value ++ flat_map names_in_branch (map (λ (c : WrittenCase). c.branch) s.cases ++ listed s.default))
        → All (in_switch (switch_at site names s))
    unfolding in_switch switch_at
    switch-given names s written =
        let in_cases = flat_map names_in_branch (map (λ (c : WrittenCase). c.branch) s.cases) in
        let in_last = flat_map names_in_branch (listed s.default) in
        let branches = subst All (flat_map-append names_in_branch (map (λ (c : WrittenCase). c.branch) s.cases) (listed s.default))
        (right (names_in_expr s.value) (flat_map names_in_branch (map (λ (c : WrittenCase). c.branch) s.cases ++ listed s.default)) written) in
        both (in_expr (expr_at site names s.value) ++ flat_map in_case (map (case_at site names) s.cases)) _
        (both (in_expr (expr_at site names s.value)) (flat_map in_case (map (case_at site names) s.cases))
        (expr-given names s.value (left (names_in_expr s.value) (flat_map names_in_branch (map (λ (c : WrittenCase). c.branch) s.cases ++ listed s.default)) written))
        (cases-given names s.cases (left in_cases in_last branches)))
        (default-given names s.default (right in_cases in_last branches))

    union-given : (names : Names) (u : UnionBody) → All (names_in_union u) → All (in_union (union_at site names u))
    unfolding in_union union_at
    union-given names (written_union.Branches branches) written = branches-given names branches written
    union-given names (written_union.Switch s) written = switch-given names s written

    -- arrays
    options-given : (names : Names) (options : List WrittenOption) → All (flat_map names_in_array_option options) → All (flat_map in_array_option (map (array_option_at site names) options))
    unfolding in_array_option array_option_at
    options-given names [] written = tt
    options-given names (written_option.Psep at separator ∷ options) written = options-given names options written
    options-given names (written_option.Pterm at terminator ∷ options) written = options-given names options written
    options-given names (written_option.Plast at condition ∷ options) written =
        both (in_expr (expr_at site names condition)) (flat_map in_array_option (map (array_option_at site names) options))
        (expr-given names condition (left (names_in_expr condition) (flat_map names_in_array_option options) written))
        (options-given names options (right (names_in_expr condition) (flat_map names_in_array_option options) written))

    array-given : (names : Names) (d : WrittenArray)
        → All (names_in_type d.of ++ names_in_option d.size ++ flat_map names_in_array_option d.options ++ names_in_option d.condition) → All (in_array (array_at site names d))
    unfolding in_array array_at
    array-given names d written =
        let inside = array_scope site.number names in
        let lasts = flat_map names_in_array_option d.options in
        let front = left (names_in_type d.of ++ names_in_option d.size ++ lasts) (names_in_option d.condition) written in
        let sized = left (names_in_type d.of ++ names_in_option d.size) lasts front in
        let so_many = at_sign ∷ in_option (option_at site names d.size) in
        let options = flat_map in_array_option (map (array_option_at site inside) d.options) in
        both (in_type (type_at site names d.of) ++ so_many ++ options) (in_option (option_at site inside d.condition))
        (both (in_type (type_at site names d.of) ++ so_many) options
        (both (in_type (type_at site names d.of)) so_many (type-given names d.of (left (names_in_type d.of) (names_in_option d.size) sized))
        (whole_is, option-given names d.size (right (names_in_type d.of) (names_in_option d.size) sized)))
        (options-given inside d.options (right (names_in_type d.of ++ names_in_option d.size) lasts front)))
        (option-given inside d.condition (right (names_in_type d.of ++ names_in_option d.size ++ lasts) (names_in_option d.condition) written))

    -- typedefs
    constraint-given : (names : Names) (d : WrittenTypedef) (o : Option WrittenConstraint) → All (flat_map names_in_constraint (listed o)) → All (in_constraint (option_map (constraint_at site names d) o))
    unfolding in_constraint constraint_at
    constraint-given names d None written = tt
    constraint-given names d (Some c) written = (written.1.0, expr-given _ c.condition (left (names_in_expr c.condition) [] written.1.1))

    typedef-given : (names : Names) (d : WrittenTypedef) → All (names_in_type d.of ++ flat_map names_in_constraint (listed d.constraint)) → All (in_typedef (typedef_at site names d))
    unfolding in_typedef typedef_at
    typedef-given names d written =
        both (in_type (type_at site names d.of)) _ (type-given names d.of (left (names_in_type d.of) (flat_map names_in_constraint (listed d.constraint)) written))
        (constraint-given names d d.constraint (right (names_in_type d.of) (flat_map names_in_constraint (listed d.constraint)) written))

    body-given : (names : Names) (inner : WrittenBody) → All (names_in_body inner) → All (in_body (body_at site names inner))
    unfolding in_body body_at
    body-given names (written_body.Struct d) written = struct-given names d written
    body-given names (written_body.Union d) written = union-given names d.body written
    body-given names (written_body.Array d) written = array-given names d written
    body-given names (written_body.Enum d) written = tt
    body-given names (written_body.Typedef d) written = typedef-given names d written
    body-given names (written_body.Opt d) written = (some_is, (none_is, type-given names d.of written))

    read-given : (r : Role) (names : Names) (inner : WrittenBody) → All (names_in_body inner) → All (in_read_body r (body_at site names inner))
    unfolding in_read_body
    read-given role.Part names inner written = body-given names inner written
    read-given role.Precord names inner written = body-given names inner written
    read-given role.Source names inner written = tt

    params-given : (types : Sight) (ps : List WrittenParam) → All (flat_map names_in_param ps) → All (map (λ param. param.name) (map (param_of types) ps))
    unfolding param_of
    params-given types [] written = tt
    params-given types (p ∷ ps) written = (
      (right (names_in_type p.of) (p.name.text ∷ []) (left (names_in_param p) (flat_map names_in_param ps) written)).0,
      params-given types ps (right (names_in_param p) (flat_map names_in_param ps) written),
    )

    pub decl-given : All (names_in_decl site.decl.body) → All (in_decl (decl_at site))
    unfolding in_decl decl_at
    decl-given written =
        let in_params = flat_map names_in_param (params_of site.decl.body) in (
          written.0,
          both (map (λ param. param.name) (map (param_of (sight site)) (params_of site.decl.body))) _
              (params-given (sight site) (params_of site.decl.body) (left in_params (names_in_body site.decl.body) written.1))
              (read-given (role_of site) (params_scope site) site.decl.body (right in_params (names_in_body site.decl.body) written.1)),
        )
