-- The one name in scope of a filter, as judging and resolving see it.
use Rattle.std.proofs.Common.{◌≡◌, ◌∙◌, sym, ap, ℕ, List, [], None, Bor}
use Rattle.pads_ast.specs.declared.decl.Part.{Part}
use Rattle.pads_rules.specs.declared.declared.Named.{Named}
use Rattle.pads_rules.specs.declared.fault.CheckFault.{CheckFault}
use Rattle.pads_rules.specs.Faults.{least}
use Rattle.pads_rules.specs.Judging as judging
use Rattle.pads_rules.specs.Pieces.{texts_of_parts}
use Rattle.pads_rules.proofs.Least.{least-append, none-least}
use Rattle.pads_judge.specs.declared.scope.Scope.{Scope, Scope-F, fold-roll-Scope}
use Rattle.pads_judge.specs.declared.scope.Scope.TheVariants as scope
use Rattle.pads_judge.specs.Scopes.{names_in_scope, scope_step}
use Rattle.pads_judge.proofs.ScopeLemmas.{in_hiding}
use Rattle.pads_rules.specs.declared.expr_sort.ExprSort.{ExprSort}
use Rattle.pads_resolution.specs.declared.visible.Stands.TheVariants as stands
use Rattle.pads_resolution.specs.declared.visible.Visible.{Visible}
use Rattle.pads_resolution.specs.Scopes.{hiding}
use Rattle.pads_resolve_expr.specs.declared.scope.NameScope.{NameScope}
use Rattle.pads_resolve_expr.specs.declared.scope.NameScope.TheVariants as name_scope
use Rattle.pads_resolve_expr.specs.Scopes as resolving
use Rattle.pads_resolve_expr.proofs.ScopeLemmas.{in-hiding, in-names as in-visible}
use Rattle.pads_question.specs.Filters.{it, it_alone, it_named}

pub in-names : (visible : Bor (List Named)) (parts : Bor (List Part)) → names_in_scope (scope.Names visible parts) ≡ record { visible = visible.now; later = texts_of_parts parts.now }
in-names visible parts = ap names_in_scope (sym (scope.rolls-Names visible parts)) ∙ fold-roll-Scope judging.Scope scope_step (Scope-F.Names visible parts)

-- `it` alone is in scope of judging.
pub judged_it : (name : Bor (List ℕ)) (sort : ExprSort) (visible : Bor (List Named)) (parts : Bor (List Part)) (outer : Bor Scope) →
    name.now ≡ it → outer.now ≡ scope.Names visible parts → visible.now ≡ [] → parts.now ≡ [] → names_in_scope (scope.Hiding name sort outer) ≡ it_alone sort
judged_it name sort visible parts outer named outside none nowhere =
    in_hiding name sort outer
    ∙ ap (λ scope. judging.hiding name.now sort (names_in_scope scope)) outside
    ∙ ap (judging.hiding name.now sort) (in-names visible parts)
    ∙ ap (λ text. judging.hiding text sort (record { visible = visible.now; later = texts_of_parts parts.now })) named
    ∙ ap (λ names. judging.hiding it sort (record { visible = names; later = texts_of_parts parts.now })) none
    ∙ ap (λ parts. judging.hiding it sort (record { visible = []; later = texts_of_parts parts })) nowhere

-- `it` alone is in scope of resolving.
pub resolved_it : (name : Bor (List ℕ)) (sort : ExprSort) (visible : Bor (List Visible)) (outer : Bor NameScope) →
    name.now ≡ it → outer.now ≡ name_scope.Names visible → visible.now ≡ [] → resolving.names_in_scope (name_scope.Hiding name stands.Variable sort outer) ≡ it_named sort
resolved_it name sort visible outer named outside none =
    in-hiding name stands.Variable sort outer
    ∙ ap (λ scope. hiding name.now stands.Variable sort (resolving.names_in_scope scope)) outside
    ∙ ap (hiding name.now stands.Variable sort) (in-visible visible)
    ∙ ap (λ text. hiding text stands.Variable sort visible.now) named
    ∙ ap (hiding it stands.Variable sort) none

pub ruleset joined_faults = (least-append)

-- There is no first violation only where there is none.
pub none_least : (faults : List CheckFault) → None ≡ least faults → faults ≡ []
none_least faults none = none-least faults none
