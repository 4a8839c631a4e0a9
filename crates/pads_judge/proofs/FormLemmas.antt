-- What is told of each form of expression, from what is told of its parts.
use Rattle.std.proofs.Common.{◌≡◌, ◌∙◌, sym, ap, refl, ℕ, suc, max, nat_lt, Bool, true, false, if◌then◌else◌, List, [], ◌∷◌, ◌++◌, Option, Some, None, fold, arith}
use Rattle.pads_expr.specs.declared.expr.BinOp.{BinOp}
use Rattle.pads_ast.specs.declared.expr.Expr.{Expr, Expr-F, roll-Expr, map-Expr}
use Rattle.pads_ast.specs.declared.expr.Expr.TheShapes.{former-Expr-Chain-1, former-Expr-Post-1}
use Rattle.pads_ast.specs.declared.expr.Expr.TheVariants as expr
use Rattle.pads_ast.specs.declared.expr.Link.{Link}
use Rattle.pads_ast.specs.declared.expr.Step.{Step}
use Rattle.pads_ast.specs.declared.expr.Step.TheVariants as step_form
use Rattle.pads_ast.specs.declared.expr.UnaryOperator.{UnaryOperator}
use Rattle.pads_ast.specs.declared.name.Name.{Name}
use Rattle.pads_ast.specs.declared.name.Word.{Word}
use Rattle.pads_rules.specs.declared.declared.Declared.{Declared}
use Rattle.pads_rules.specs.declared.expr_sort.ExprSort.{ExprSort}
use Rattle.pads_rules.specs.declared.expr_sort.ExprSort.TheVariants as expr_sort
use Rattle.pads_rules.specs.declared.fault.CheckFault.{CheckFault}
use Rattle.pads_rules.specs.declared.rule.Rule.TheVariants as rule
use Rattle.pads_rules.specs.Faults.{breaks, when, is_before, lesser, least}
use Rattle.pads_rules.specs.Judging as judging
use Rattle.pads_rules.specs.Judging.{Scope, Judged, judged, judge_form, judgement, too_high, hiding, place_of}
use Rattle.pads_rules.specs.Members.{member}
use Rattle.pads_rules.specs.Sorts.{num, text, truth, unless_broken}
use Rattle.pads_rules.specs.Texts.{sort_of}
use Rattle.pads_rules.proofs.Judgements.{judged-roll}
use Rattle.pads_rules.proofs.Least.{least-append}
use Rattle.pads_judge.specs.declared.judgement.Judgement.{Judgement}
use Rattle.pads_judge.specs.Judgements.{capped, above, shown_judgement, unless_fault, settle, leaf, variable, variable_found, binary, unary, member_of, member_found, indexed, parenthesized, pis, plen, pforall, linked, stepped}

high-capped : (h : ℕ) → nat_lt 256 h ≡ nat_lt 256 (capped h)
high-capped h = grind arith

capped-above : (h : ℕ) → capped (suc h) ≡ above (capped h)
capped-above h = omega arith

capped-max : (a b : ℕ) → capped (suc (max a b)) ≡ above (max (capped a) (capped b))
capped-max a b = omega arith

capped-max3 : (a b c : ℕ) → capped (suc (max (max a b) c)) ≡ above (max (max (capped a) (capped b)) (capped c))
capped-max3 a b c = omega arith

one-fault : (x : CheckFault) (sort : ExprSort) (rest : Option CheckFault) → expr_sort.Unknown ≡ unless_fault (lesser (Some x) rest) sort
unfolding lesser
one-fault x sort None = refl
one-fault x sort (Some y) = by_order (is_before y x)
  where
    by_order : (t : Bool) → expr_sort.Unknown ≡ unless_fault (if t then Some y else Some x) sort
    by_order true = refl
    by_order false = refl

unless-least : (faults : List CheckFault) (sort : ExprSort) → unless_broken faults sort ≡ unless_fault (least faults) sort
unless-least [] sort = refl
unless-least (x ∷ xs) sort = one-fault x sort (least xs)

least-high : (first h : ℕ) (faults : List CheckFault) → least (faults ++ too_high first h) ≡ lesser (least faults) (least (too_high first (capped h)))
least-high first h faults =
    least-append faults (too_high first h) ∙ ap (λ t. lesser (least faults) (least (when t (breaks rule.Limit first)))) (high-capped h)

with_all : (first h : ℕ) (sort : ExprSort) (all : List CheckFault) (fault : Option CheckFault) → least all ≡ fault →
    (let there : Judgement = record { first = first; height = capped h; sort = unless_broken all sort; fault = least all } in there)
    ≡ (let there : Judgement = record { first = first; height = capped h; sort = unless_fault fault sort; fault = fault } in there)
with_all first h sort all fault e = rw (unless-least all sort, e) refl

pub told-judgement : (first h : ℕ) (sort : ExprSort) (faults : List CheckFault) → shown_judgement (judgement first h sort faults) ≡ settle first (capped h) sort (least faults)
unfolding settle
told-judgement first h sort faults = with_all first h sort (faults ++ too_high first h) _ (least-high first h faults)

-- the same with the least of the violations known
told-as : (first h : ℕ) (sort : ExprSort) (faults : List CheckFault) (height : ℕ) (fault : Option CheckFault) → capped h ≡ height → least faults ≡ fault →
    shown_judgement (judgement first h sort faults) ≡ settle first height sort fault
told-as first h sort faults height fault e f = told-judgement first h sort faults ∙ rw (e, f) refl

told-leaf : (at : ℕ) (sort : ExprSort) → shown_judgement (judging.leaf at sort) ≡ leaf at sort
told-leaf at sort = told-judgement at 1 sort []

told-found : (scope : Scope) (name : Name) (found : Option ExprSort) → shown_judgement (judging.variable_found scope name found) ≡ variable_found scope name found
unfolding lesser
told-found scope name (Some sort) = told-leaf name.at sort
told-found scope name None = told-judgement name.at 1 expr_sort.Unknown (judging.not_in_scope scope name)

told-variable : (scope : Scope) (name : Name) → shown_judgement (judging.variable scope name) ≡ variable scope name
unfolding variable
told-variable scope name = told-found scope name (sort_of scope.visible name.text)

told-binary : (operator : BinOp) (left right : Judged) → shown_judgement (judging.binary operator left right) ≡ binary operator (shown_judgement left) (shown_judgement right)
unfolding binary
told-binary operator left right = told-as _ _ _ _ _ _ (capped-max left.height right.height) (simp least-append refl)

told-unary : (operator : UnaryOperator) (at : ℕ) (operand : Judged) → shown_judgement (judging.unary operator at operand) ≡ unary operator at (shown_judgement operand)
unfolding unary
told-unary operator at operand = told-as _ _ _ _ _ _ (capped-above operand.height) (simp least-append refl)

told-member : (whole : Judged) (name : Name) (found : Option ExprSort) → shown_judgement (judging.member_found whole name found) ≡ member_found (shown_judgement whole) name found
unfolding lesser
told-member whole name (Some sort) = told-as _ _ _ _ _ _ (capped-above whole.height) refl
told-member whole name None = told-as _ _ _ _ _ _ (capped-above whole.height) (simp least-append refl)

told-member_of : (env : List Declared) (whole : Judged) (name : Name) →
    shown_judgement (judging.member_found whole name (member env whole.sort name.text)) ≡ member_of env (shown_judgement whole) name
unfolding member_of
told-member_of env whole name = told-member whole name (member env whole.sort name.text)

told-indexed : (env : List Declared) (whole index : Judged) → shown_judgement (judging.indexed env whole index) ≡ indexed env (shown_judgement whole) (shown_judgement index)
unfolding indexed
told-indexed env whole index = told-as _ _ _ _ _ _ (capped-max whole.height index.height) (simp least-append refl)

told-parenthesized : (at : ℕ) (inner : Judged) → shown_judgement (judging.parenthesized at inner) ≡ parenthesized at (shown_judgement inner)
unfolding parenthesized
told-parenthesized at inner = told-judgement at inner.height inner.sort inner.faults

told-pis : (env : List Declared) (at : ℕ) (value : Judged) (name : Name) → shown_judgement (judging.pis env at value name) ≡ pis env at (shown_judgement value) name
unfolding pis
told-pis env at value name = told-as _ _ _ _ _ _ (capped-above value.height) (simp least-append refl)

told-plen : (at : ℕ) (value : Judged) → shown_judgement (judging.plen at value) ≡ plen at (shown_judgement value)
unfolding plen
told-plen at value = told-as _ _ _ _ _ _ (capped-above value.height) (simp least-append refl)

told-pforall : (at : ℕ) (low high body : Judged) → shown_judgement (judging.pforall at low high body) ≡ pforall at (shown_judgement low) (shown_judgement high) (shown_judgement body)
unfolding pforall
told-pforall at low high body = told-as _ _ _ _ _ _ (capped-max3 low.height high.height body.height) (simp least-append refl)

-- links and steps, from the left
told-chained : (env : List Declared) (scope : Scope) (left : Judged) (links : List (Link Expr)) →
    shown_judgement (judging.chained left ((former-Expr-Chain-1).map Expr (Scope → Judged) (judged env) links) scope) ≡ fold (linked env scope) (shown_judgement left) links
told-chained env scope left [] = refl
told-chained env scope left (link ∷ links) =
    told-chained env scope (judging.binary link.operator left (judged env link.operand scope)) links
    ∙ ap (λ j. fold (linked env scope) j links) (told-binary link.operator left (judged env link.operand scope))

told-posted : (env : List Declared) (scope : Scope) (whole : Judged) (steps : List (Step Expr)) →
    shown_judgement (judging.posted env whole ((former-Expr-Post-1).map Expr (Scope → Judged) (judged env) steps) scope) ≡ fold (stepped env scope) (shown_judgement whole) steps
told-posted env scope whole [] = refl
told-posted env scope whole (step_form.Name name ∷ steps) =
    told-posted env scope (judging.member_found whole name (member env whole.sort name.text)) steps
    ∙ ap (λ j. fold (stepped env scope) j steps) (told-member_of env whole name)
told-posted env scope whole (step_form.Index at index ∷ steps) =
    told-posted env scope (judging.indexed env whole (judged env index scope)) steps
    ∙ ap (λ j. fold (stepped env scope) j steps) (told-indexed env whole (judged env index scope))

-- one form at a time
told-roll : (env : List Declared) (layer : Expr-F Expr) (scope : Scope) (e : Expr) → roll-Expr layer ≡ e →
    shown_judgement (judged env e scope) ≡ shown_judgement (judge_form env (map-Expr Expr (Scope → Judged) (judged env) layer) scope)
told-roll env layer scope e rolls = ap (λ x. shown_judgement (judged env x scope)) (sym rolls) ∙ ap shown_judgement (judged-roll env layer scope)

pub told-Chain : (env : List Declared) (scope : Scope) (first : Expr) (links : List (Link Expr)) →
    shown_judgement (judged env (expr.Chain first links) scope) ≡ fold (linked env scope) (shown_judgement (judged env first scope)) links
told-Chain env scope first links =
    told-roll env (Expr-F.Chain first links) scope _ (expr.rolls-Chain first links) ∙ told-chained env scope (judged env first scope) links

pub told-Unary : (env : List Declared) (scope : Scope) (operator : UnaryOperator) (at : ℕ) (operand : Expr) →
    shown_judgement (judged env (expr.Unary operator at operand) scope) ≡ unary operator at (shown_judgement (judged env operand scope))
told-Unary env scope operator at operand =
    told-roll env (Expr-F.Unary operator at operand) scope _ (expr.rolls-Unary operator at operand) ∙ told-unary operator at (judged env operand scope)

pub told-Post : (env : List Declared) (scope : Scope) (base : Expr) (steps : List (Step Expr)) →
    shown_judgement (judged env (expr.Post base steps) scope) ≡ fold (stepped env scope) (shown_judgement (judged env base scope)) steps
told-Post env scope base steps =
    told-roll env (Expr-F.Post base steps) scope _ (expr.rolls-Post base steps) ∙ told-posted env scope (judged env base scope) steps

pub told-Number : (env : List Declared) (scope : Scope) (value at : ℕ) → shown_judgement (judged env (expr.Number value at) scope) ≡ leaf at num
told-Number env scope value at = told-roll env (Expr-F.Number value at) scope _ (expr.rolls-Number value at) ∙ told-leaf at num

pub told-Word : (env : List Declared) (scope : Scope) (word : Word) → shown_judgement (judged env (expr.Word word) scope) ≡ leaf (place_of word) text
told-Word env scope word = told-roll env (Expr-F.Word word) scope _ (expr.rolls-Word word) ∙ told-leaf (place_of word) text

pub told-Truth : (env : List Declared) (scope : Scope) (value : Bool) (at : ℕ) → shown_judgement (judged env (expr.Truth value at) scope) ≡ leaf at truth
told-Truth env scope value at = told-roll env (Expr-F.Truth value at) scope _ (expr.rolls-Truth value at) ∙ told-leaf at truth

pub told-Name : (env : List Declared) (scope : Scope) (name : Name) → shown_judgement (judged env (expr.Name name) scope) ≡ variable scope name
told-Name env scope name = told-roll env (Expr-F.Name name) scope _ (expr.rolls-Name name) ∙ told-variable scope name

pub told-Paren : (env : List Declared) (scope : Scope) (at : ℕ) (inner : Expr) →
    shown_judgement (judged env (expr.Paren at inner) scope) ≡ parenthesized at (shown_judgement (judged env inner scope))
told-Paren env scope at inner =
    told-roll env (Expr-F.Paren at inner) scope _ (expr.rolls-Paren at inner) ∙ told-parenthesized at (judged env inner scope)

pub told-Pis : (env : List Declared) (scope : Scope) (at : ℕ) (value : Expr) (name : Name) →
    shown_judgement (judged env (expr.Pis at value name) scope) ≡ pis env at (shown_judgement (judged env value scope)) name
told-Pis env scope at value name =
    told-roll env (Expr-F.Pis at value name) scope _ (expr.rolls-Pis at value name) ∙ told-pis env at (judged env value scope) name

pub told-Plen : (env : List Declared) (scope : Scope) (at : ℕ) (value : Expr) →
    shown_judgement (judged env (expr.Plen at value) scope) ≡ plen at (shown_judgement (judged env value scope))
told-Plen env scope at value =
    told-roll env (Expr-F.Plen at value) scope _ (expr.rolls-Plen at value) ∙ told-plen at (judged env value scope)

pub told-Pforall : (env : List Declared) (scope : Scope) (at : ℕ) (name : Name) (low high body : Expr) →
    shown_judgement (judged env (expr.Pforall at name low high body) scope)
    ≡ pforall at (shown_judgement (judged env low scope)) (shown_judgement (judged env high scope)) (shown_judgement (judged env body (hiding name.text num scope)))
told-Pforall env scope at name low high body =
    told-roll env (Expr-F.Pforall at name low high body) scope _ (expr.rolls-Pforall at name low high body)
    ∙ told-pforall at (judged env low scope) (judged env high scope) (judged env body (hiding name.text num scope))

pub ruleset forms = (told-Chain, told-Unary, told-Post, told-Number, told-Word, told-Truth, told-Name, told-Paren, told-Pis, told-Plen, told-Pforall)

-- a `Pforall`, its parts and the scope of its body each known by an equation
pub pforall_told : (env : List Declared) (scope inner : Scope) (e : Expr) (at : ℕ) (name : Name) (low high body l h b : Expr) (j_low j_high j_body r : Judgement) →
    e ≡ expr.Pforall at name low high body → l ≡ low → h ≡ high → b ≡ body → inner ≡ hiding name.text num scope →
    j_low ≡ shown_judgement (judged env l scope) → j_high ≡ shown_judgement (judged env h scope) → j_body ≡ shown_judgement (judged env b inner) →
    r ≡ pforall at j_low j_high j_body → r ≡ shown_judgement (judged env e scope)
pforall_told env scope inner e at name low high body l h b j_low j_high j_body r is is_l is_h is_b is_inner is_low is_high is_body is_r =
    rw (is_r, is, told-Pforall env scope at name low high body, is_low, is_high, is_body, is_l, is_h, is_b, is_inner) refl
