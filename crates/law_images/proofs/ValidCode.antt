-- The code of a module is valid.
use Rattle.std.proofs.Common.{◌≡◌, ◌∙◌, ap, refl, ℕ, suc, ◌+◌, ◌≤◌, Bool, true, nat_eq, nat_le, List, [], ◌∷◌, length, map}
use Rattle.std.specs.List.{list_all}
use Rattle.std.proofs.lemmas.Bool.{and_parts, le-leb}
use lib.Pointwise.{pointwise}
use Rattle.pads_calc.specs.declared.decl.Decl.{Decl}
use Rattle.pads_calc.specs.declared.decl.Shape.{Shape}
use Rattle.pads_module.specs.Counts.{few, counts_fit, decl_counts, module_counts}
use Rattle.pads_module.specs.Scopes.{module_in_scope, decl_in_scope, shape_there}
use Rattle.pads_module.specs.Scopes as scopes
use Rattle.pads_calc.specs.Skeletons.{keeping_of, keepings_of}
use Rattle.pads_image.specs.Skeletons.{kept_in, same_skeleton}
use Rattle.pads_image.specs.declared.entry.Entry.{Entry}
use Rattle.pads_image.specs.Code.{entries_from, code_of, entries_of, length_of, decl_length}
use Rattle.pads_image.specs.Reads.{bodies_of}
use Rattle.pads_image.specs.Validity.{is_valid, longest, begin_at, keep_of, params_of, arities_of, variables_stand}
use Rattle.pads_image.specs.Variables.{code_stands, later_params, next_params}
use Rattle.law_images.proofs.Closed.{both}
use Rattle.pads_image.proofs.Lengths.{length-code_from}
use Rattle.law_images.proofs.ReadBack.{same-number}
use Rattle.law_images.proofs.ReadDecls.{bodies-back, bodies-are}
use Rattle.law_images.proofs.SameSkeletons.{same-itself}
use Rattle.law_images.proofs.Standing.{params_in, decls-stand}

itself : {A : Type 0} (E : A → A → Bool) → ((x : A) → E x x ≡ true) → (xs : List A) → pointwise E xs xs ≡ true
itself E same [] = refl
itself E same (x ∷ xs) = both (E x x) (pointwise E xs xs) (same x) (itself E same xs)

pub kept-same : (decls : List Decl) (p : ℕ) → kept_in (entries_from decls p) ≡ keepings_of decls
kept-same [] p = refl
kept-same (decl ∷ decls) p = ap (λ more. keeping_of decl ∷ more) (kept-same decls (p + decl_length decl))

params-same : (decls : List Decl) (p : ℕ) → params_of (entries_from decls p) ≡ params_in decls
params-same [] p = refl
params-same (decl ∷ decls) p = ap (λ more. decl.params ∷ more) (params-same decls (p + decl_length decl))

pub arities-same : (decls : List Decl) (p : ℕ) → arities_of (entries_from decls p) ≡ scopes.arities_of decls
arities-same [] p = refl
arities-same (decl ∷ decls) p = ap (λ more. length decl.params ∷ more) (arities-same decls (p + decl_length decl))

few-same : (decls : List Decl) (p : ℕ) → list_all decl_counts decls ≡ true → list_all (λ (entry : Entry). few entry.params) (entries_from decls p) ≡ true
few-same [] p fits = refl
few-same (decl ∷ decls) p fits =
    let all = and_parts (decl_counts decl) (list_all decl_counts decls) fits in
    both (few decl.params) _ (and_parts (few decl.params) (counts_fit decl.body) all.0).0 (few-same decls (p + decl_length decl) all.1)

pub count-same : (decls : List Decl) (p : ℕ) → length (entries_from decls p) ≡ length decls
count-same [] p = refl
count-same (decl ∷ decls) p = ap (λ n. suc n) (count-same decls (p + decl_length decl))

short : (n m : ℕ) → n ≤ m → nat_le n m ≡ true
short n m less = le-leb n m less

module _ (decls : List Decl) (names : List (List ℕ)) (shape : Shape) (counted : module_counts decls ≡ true) (scoped : module_in_scope decls names shape ≡ true) where
  fits : list_all decl_counts decls ≡ true
  fits = (and_parts (few decls) (list_all decl_counts decls) counted).1

  bound : list_all (decl_in_scope (length names) (scopes.arities_of decls)) decls ≡ true
  bound = (and_parts (list_all (decl_in_scope (length names) (scopes.arities_of decls)) decls) (shape_there (length decls) shape) scoped).0

  there : shape_there (length decls) shape ≡ true
  there = (and_parts (list_all (decl_in_scope (length names) (scopes.arities_of decls)) decls) (shape_there (length decls) shape) scoped).1

  begins : begin_at (bodies_of (code_of decls)) (entries_of decls) ≡ true
  begins =
      ap (λ bodies. begin_at bodies (entries_of decls)) (bodies-are decls fits)
      ∙ ap (λ firsts. pointwise nat_eq firsts (map (λ (entry : Entry). entry.first) (entries_of decls))) (bodies-back decls fits).firsts
      ∙ itself nat_eq same-number (map (λ (entry : Entry). entry.first) (entries_of decls))

  keeps : keep_of (bodies_of (code_of decls)) (entries_of decls) ≡ true
  keeps =
      ap (λ bodies. keep_of bodies (entries_of decls)) (bodies-are decls fits)
      ∙ ap (λ kept. pointwise same_skeleton kept (map (λ (entry : Entry). entry.skeleton) (entries_of decls))) (bodies-back decls fits).skeletons
      ∙ itself same_skeleton same-itself (map (λ (entry : Entry). entry.skeleton) (entries_of decls))

  variables : variables_stand (code_of decls) (entries_of decls) ≡ true
  variables =
      ap (λ arities. code_stands arities (later_params (params_of (entries_of decls))) (next_params (params_of (entries_of decls))) (code_of decls)) (arities-same decls 0)
      ∙ ap (λ params. code_stands (scopes.arities_of decls) (later_params params) (next_params params) (code_of decls)) (params-same decls 0)
      ∙ decls-stand (length names) (scopes.arities_of decls) decls fits bound 0

  pub valid-code : length_of decls ≤ longest → is_valid (code_of decls) (entries_of decls) shape ≡ true
  valid-code less =
      let fitting : nat_le (length (code_of decls)) longest ≡ true = ap (λ n. nat_le n longest) (length-code_from decls 0) ∙ short (length_of decls) longest less in
      both _ (shape_there (length (entries_of decls)) shape)
      (both _ (list_all (λ (entry : Entry). few entry.params) (entries_of decls))
      (both _ (variables_stand (code_of decls) (entries_of decls)) (both _ (keep_of (bodies_of (code_of decls)) (entries_of decls)) (both _ (begin_at (bodies_of (code_of decls)) (entries_of decls)) fitting begins) keeps) variables)
      (few-same decls 0 fits))
      (ap (λ n. shape_there n shape) (count-same decls 0) ∙ there)
