-- How many names are in scope, by the parameters' and the others.
use Rattle.std.proofs.Common.{◌≡◌, ◌∙◌, sym, ap, refl, ℕ, ◌+◌, nat_lt, Bool, List, [], ◌∷◌, ◌++◌, length, not, add-zero, append-nil}
use Rattle.std.proofs.lemmas.List.{map-append}
use Rattle.pads_ast.specs.declared.decl.DeclBody.{DeclBody}
use Rattle.pads_ast.specs.declared.decl.DeclBody.TheVariants as decl
use Rattle.pads_ast.specs.declared.name.Name.{Name}
use Rattle.pads_rules.specs.DeclRules.{scope_count, texts, one_if}
use Rattle.pads_ast.specs.Trees.{is_empty, param_names, inner_names, branches_of}
use Rattle.pads_counts.specs.Met.{met}
use Rattle.pads_counts.specs.Counted.{beside_params, one_more}
use Rattle.pads_declared.proofs.NumberLemmas.{first-less}

pub scope-count : (d : DeclBody) → scope_count d ≡ length (met [] (texts (param_names d) ++ beside_params d)) + one_if (one_more d)
unfolding met
scope-count (decl.Struct d) = sym (add-zero _)
scope-count (decl.Array d) = sym (add-zero _)
scope-count (decl.Union d) = ap (λ names. length (met [] names) + one_if (not (is_empty (branches_of d.body)))) (sym (append-nil (texts (param_names (decl.Union d)))))
scope-count (decl.Typedef d) = sym (add-zero _)
scope-count (decl.Opt d) = sym (add-zero _) ∙ ap (λ names. length (met [] names) + 0) (sym (append-nil (texts (param_names (decl.Opt d)))))
scope-count (decl.Enum d) = refl

pub scope-told : (d : DeclBody) (count : ℕ) (more much : Bool) → count ≡ length (met [] (texts (param_names d) ++ beside_params d)) → more ≡ one_more d →
    much ≡ nat_lt 4096 (count + one_if more) → much ≡ nat_lt 4096 (scope_count d)
scope-told d count more much counted one told =
    told ∙ ap (λ n. nat_lt 4096 (n + one_if more)) counted ∙ ap (λ b. nat_lt 4096 (length (met [] (texts (param_names d) ++ beside_params d)) + one_if b)) one
    ∙ ap (nat_lt 4096) (sym (scope-count d))

-- there are some exactly where their number is above 0
pub has-some : {X : Type 0} (xs : List X) → nat_lt 0 (length xs) ≡ not (is_empty xs)
has-some [] = refl
has-some (x ∷ xs) = first-less (length xs)
