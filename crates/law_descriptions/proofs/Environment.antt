-- The declarations of a description where they stand.
use Rattle.std.proofs.Common.{◌≡◌, ◌∙◌, sym, ap, subst, arith, ℕ, zero, suc, ◌+◌, List, [], ◌∷◌, ◌++◌, append_assoc, append-nil, map, length, length-append, take, Some, slice_get}
use Rattle.pads_ast.specs.declared.decl.Decl.{Decl as WrittenDecl}
use Rattle.pads_resolution.specs.declared.decl.Decl.{Decl}
use Rattle.pads_resolution.specs.Resolution.{decl_at}
use Rattle.pads_rules.specs.Pieces.{Site, sites}
use Rattle.pads_rules.specs.Resolving.{declared}
use Rattle.pads_rules.specs.declared.declared.Declared.{Declared}
use Rattle.law_descriptions.proofs.Lists.{there-mapped, mapped-there}
use Rattle.law_descriptions.proofs.AcceptedLists.{get-behind, take-front, numbered-there, numbered-back}

abbrev pub site_of : List WrittenDecl → ℕ → WrittenDecl → Site
site_of decls n d = record { decls = decls; env = declared decls; number = n; decl = d }

-- sites
pub site-there : (decls : List WrittenDecl) (n : ℕ) (d : WrittenDecl) → slice_get decls n ≡ Some d → slice_get (sites decls) n ≡ Some (site_of decls n d)
site-there decls n d there =
    let number : 0 + n ≡ n = omega arith in
    there-mapped _ _ n (0 + n, d) (numbered-there decls 0 n d there) ∙ ap (λ (m : ℕ). Some (site_of decls m d)) number

pub site-back : (decls : List WrittenDecl) (n : ℕ) (made : Decl) → slice_get (map decl_at (sites decls)) n ≡ Some made
    → (d : WrittenDecl) × (slice_get decls n ≡ Some d) × (decl_at (site_of decls n d) ≡ made)
site-back decls n made there =
    let number : 0 + n ≡ n = omega arith in
    let site = mapped-there decl_at (sites decls) n made there in
    let numbered = mapped-there (λ (numbered : ℕ × WrittenDecl). site_of decls numbered.0 numbered.1) _ n site.0 site.1 in
    let x = numbered-back decls 0 n numbered.0 numbered.1 in (
      x.0,
      x.1,
      ap (λ (m : ℕ). decl_at (site_of decls m x.0)) (sym number) ∙ ap (λ (y : ℕ × WrittenDecl). decl_at (site_of decls y.0 y.1)) (sym x.2) ∙ ap decl_at numbered.2 ∙ site.2,
    )
