-- Steps of loops over the declarations of a description.
use Rattle.std.proofs.Common.{◌≡◌, ◌∙◌, sym, ap, refl, ℕ, ◌+◌, ◌<◌, ◌≤◌, List, [], ◌∷◌, ◌++◌, length, map, fold, drop, get_or, append_assoc, add-one}
use Rattle.std.proofs.lemmas.List.{append-nil, drop_all}
use Rattle.pads_ast.specs.declared.decl.Decl.{Decl as WrittenDecl}
use Rattle.pads_resolution.specs.declared.decl.Decl.{Decl}
use Rattle.pads_resolution.specs.declared.decl.Source.{Source}
use Rattle.pads_rules.specs.declared.declared.Declared.{Declared}
use Rattle.pads_resolution.specs.Resolution.{decl_at, source_after}
use Rattle.pads_resolve.specs.Places.{place_of, sites_from}
use Rattle.pads_declared.proofs.Lists.{left}

pub source-step : (source : Source) (decls : List WrittenDecl) (env : List Declared) (i : ℕ) (d : WrittenDecl) → i < length decls → d ≡ get_or decls i d →
    fold source_after (source_after source (place_of decls env (i, d))) (sites_from decls env (i + 1) (drop (i + 1) decls)) ≡ fold source_after source (sites_from decls env i (drop i decls))
source-step source decls env i d there is = rw (left decls i d there is) refl

pub source-end : (source : Source) (decls : List WrittenDecl) (env : List Declared) (i : ℕ) (whole : Source) → length decls ≤ i →
    fold source_after source (sites_from decls env i (drop i decls)) ≡ whole → source ≡ whole
source-end source decls env i whole over e = sym (ap (λ ds. fold source_after source (sites_from decls env i ds)) (drop_all i decls over)) ∙ e

pub decls-step : (made : List Decl) (decls : List WrittenDecl) (env : List Declared) (i : ℕ) (d : WrittenDecl) → i < length decls → d ≡ get_or decls i d →
    (made ++ decl_at (place_of decls env (i, d)) ∷ []) ++ map decl_at (sites_from decls env (i + 1) (drop (i + 1) decls)) ≡ made ++ map decl_at (sites_from decls env i (drop i decls))
decls-step made decls env i d there is =
    rw (left decls i d there is) (append_assoc made (decl_at (place_of decls env (i, d)) ∷ []) (map decl_at (sites_from decls env (i + 1) (drop (i + 1) decls))))

pub decls-end : (made : List Decl) (decls : List WrittenDecl) (env : List Declared) (i : ℕ) (whole : List Decl) → length decls ≤ i →
    made ++ map decl_at (sites_from decls env i (drop i decls)) ≡ whole → made ≡ whole
decls-end made decls env i whole over e = sym (append-nil made) ∙ sym (ap (λ ds. made ++ map decl_at (sites_from decls env i ds)) (drop_all i decls over)) ∙ e
