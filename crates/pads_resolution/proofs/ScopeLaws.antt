-- The names in scope of resolving are those of the rules, with the same sorts.
use Rattle.std.proofs.Common.{◌≡◌, ◌∙◌, sym, ap, refl, append_assoc, ℕ, suc, List, [], ◌∷◌, ◌++◌, map, flat_map}
use Rattle.std.proofs.lemmas.List.{append-nil, map-append}
use Rattle.pads_ast.specs.declared.decl.Part.{Part}
use Rattle.pads_ast.specs.declared.name.Name.{Name}
use Rattle.pads_ast.specs.declared.types.Param.{Param}
use Rattle.pads_ast.specs.declared.types.Type.{«Type»}
use Rattle.pads_rules.specs.Pieces as pieces
use Rattle.pads_rules.specs.Pieces.{Site, sight}
use Rattle.pads_rules.specs.Resolving.{Sight, named, param_named}
use Rattle.pads_ast.specs.Trees.{named_part, params_of}
use Rattle.pads_resolution.specs.declared.visible.Visible.{Visible}
use Rattle.pads_resolution.specs.Resolution.{params_scope}
use Rattle.pads_resolution.specs.Scopes.{NameScope, variable, field, names_after, fields_after}
use Rattle.pads_resolution.specs.JudgedNames.{as_named}

-- names that are seen as the rules see them are those that were there
seen : {A : Type 0} (made : A → Visible) (xs : List A) → map as_named (map made xs) ≡ map (λ x. as_named (made x)) xs
seen made [] = refl
seen made (x ∷ xs) = ap (λ names. as_named (made x) ∷ names) (seen made xs)

pub params-judged : (site : Site) → map as_named (params_scope site) ≡ map (param_named (sight site)) (params_of site.decl.body)
unfolding params_scope
params-judged site = seen (λ (param : Param). variable (param_named (sight site) param)) (params_of site.decl.body)

pub part-judged : (types : Sight) (names : NameScope) (p : Part) → map as_named (names_after types names p) ≡ pieces.names_after types (map as_named names) p
part-judged types names p =
    map-append as_named names (map (λ (both : Name × «Type»). variable (named types both)) (named_part p))
    ∙ ap (λ more. map as_named names ++ more) (seen (λ (both : Name × «Type»). variable (named types both)) (named_part p))

field-judged : (types : Sight) (names : NameScope) (number : ℕ) (p : Part) → map as_named (names ++ map (field types number) (named_part p)) ≡ pieces.names_after types (map as_named names) p
field-judged types names number p =
    map-append as_named names (map (field types number) (named_part p)) ∙ ap (λ more. map as_named names ++ more) (seen (field types number) (named_part p))

pub fields-judged : (types : Sight) (names : NameScope) (number : ℕ) (parts : List Part) →
    map as_named (fields_after types names number parts) ≡ pieces.names_after_all types (map as_named names) parts
fields-judged types names number [] = sym (append-nil (map as_named names))
fields-judged types names number (p ∷ parts) =
    fields-judged types (names ++ map (field types number) (named_part p)) (suc number) parts
    ∙ ap (λ before. before ++ map (named types) (flat_map named_part parts)) (field-judged types names number p)
    ∙ append_assoc (map as_named names) (map (named types) (named_part p)) (map (named types) (flat_map named_part parts))
    ∙ ap (λ more. map as_named names ++ more) (sym (map-append (named types) (named_part p) (flat_map named_part parts)))

pub ruleset scope_laws = (params-judged, part-judged, fields-judged)
