-- The module of a well-sorted description is well formed, and has fewer names than 16 bits count.
use Rattle.std.proofs.Common.{◌≡◌, ◌∙◌, sym, ap, refl, ℕ, ◌<◌, true, nat_lt, map, length, Option, Some, None, lt-ltb}
use Rattle.std.specs.List.{list_all}
use Rattle.std.proofs.lemmas.List.{length-map}
use Rattle.std.proofs.lemmas.Bool.{and_from}
use Rattle.pads_module.specs.Counts.{module_counts}
use Rattle.pads_module.specs.Scopes.{arities_of, decl_in_scope, name_there, shape_there, module_in_scope}
use Rattle.pads_code.specs.declared.Coding.{Coding}
use Rattle.pads_resolution.specs.declared.decl.Description.{Description}
use Rattle.pads_module.specs.Modules.{is_formed}
use Rattle.pads_trans.specs.Modules.{shape_of, module_of, is_module}
use Rattle.pads_trans.specs.Terms.{decl_of}
use Rattle.pads_trans.specs.Met.{in_decl, names_of}
use Rattle.law_descriptions.specs.WellSorted.{IfThere, WellSorted}
use Rattle.law_descriptions.proofs.Counted.{module-counts}
use Rattle.law_descriptions.proofs.Lists.{mapped-there, all-at, each-flat}
use Rattle.law_descriptions.proofs.SortedNames.{Known, all-met}
use Rattle.law_descriptions.proofs.ScopedTerms.{decl-scoped}

head-there : (count : ℕ) (head : Option ℕ) → IfThere (λ number. number < count) head → name_there count head ≡ true
head-there count None h = refl
head-there count (Some number) h = lt-ltb number count h

module-scoped : (d : Description) (ambient : Coding) → WellSorted d → module_in_scope (module_of d ambient).decls (names_of d) (shape_of d.source) ≡ true
module-scoped d ambient well =
    let names = names_of d in
    let decls = map (decl_of names ambient) d.decls in
    and_from (list_all (decl_in_scope (length names) (arities_of decls)) decls) (shape_there (length decls) (shape_of d.source))
    (all-at (decl_in_scope (length names) (arities_of decls)) decls (λ n made there.
    let tree = mapped-there (decl_of names ambient) d.decls n made there in
    ap (decl_in_scope (length names) (arities_of decls)) (sym tree.2)
    ∙ decl-scoped names ambient d.decls well.sorts n tree.0 (each-flat (Known names) in_decl d.decls n tree.0 (all-met d) tree.1) (well.decls n tree.0 tree.1)))
    (ap (λ count. shape_there count (shape_of d.source)) (length-map d.decls (decl_of names ambient))
    ∙ and_from (name_there (length d.decls) d.source.header) (nat_lt d.source.record (length d.decls))
    (head-there (length d.decls) d.source.header well.header) (lt-ltb d.source.record (length d.decls) well.record_type))

pub module-formed : (d : Description) (ambient : Coding) → WellSorted d → is_module (module_of d ambient) ≡ true
module-formed d ambient well =
    and_from (nat_lt (length (names_of d)) 65535) (is_formed (module_of d ambient)) (lt-ltb (length (names_of d)) 65535 well.few_names)
    (and_from (module_counts (module_of d ambient).decls) (module_in_scope (module_of d ambient).decls (names_of d) (shape_of d.source)) (module-counts d ambient well) (module-scoped d ambient well))
