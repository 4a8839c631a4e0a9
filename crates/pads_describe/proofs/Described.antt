-- What an accepted text describes is a module, well-sorted and plain, that keeps all values.
use Rattle.std.proofs.Common.{◌≡◌, ◌∙◌, sym, ap, refl, subst, ℕ, true, false, List, []}
use Rattle.law_descriptions.proofs.Sorted.{well-sorted}
use Rattle.pads_ast.specs.declared.decl.Ast.{Ast}
use Rattle.pads_code.specs.declared.Coding.{Coding}
use Rattle.pads_resolution.specs.Resolution.{resolved}
use Rattle.pads_rules.specs.Violations.{violations}
use Rattle.pads_resolution.specs.declared.decl.Description.{Description}
use Rattle.law_calculus.specs.Plain.{Plain}
use Rattle.law_calculus.specs.Sorted.{Sorted}
use Rattle.pads_module.specs.Modules.{Contents}
use Rattle.pads_calc.specs.Skeletons.{KeepsAll}
use Rattle.pads_trans.specs.Modules.{is_module, module_of}
use Rattle.pads_trans.proofs.Kept.{translated-kept}
use Rattle.pads_trans.specs.Met.{names_of}
use Rattle.law_descriptions.proofs.Formed.{module-formed}
use Rattle.law_descriptions.proofs.PlainTerms.{module-plain}
use Rattle.law_descriptions.proofs.SortedTerms.{module-sorted}
use Rattle.law_descriptions.specs.WellSorted.{WellSorted}
use Rattle.pads_describe.specs.Describing.{Describes, contents_in}
use Rattle.pads_describe.specs.Trees.{IsAccepted}

module _ (tree : Ast) (d : Description) (coding : Coding) (none : violations tree ≡ []) (is : d ≡ resolved tree) where
  well : WellSorted d
  well = subst WellSorted (sym is) (well-sorted tree none)

  pub tree-formed : is_module (module_of d coding) ≡ true
  tree-formed = module-formed d coding well

  pub never-unformed : is_module (module_of d coding) ≡ false → ⊥
  never-unformed refused = let e : true ≡ false = sym tree-formed ∙ refused in cc

  pub tree-sorted : (made : Contents) → made ≡ module_of d coding → Sorted made.decls
  tree-sorted made same = subst (λ (m : Contents). Sorted m.decls) (sym same) (module-sorted d coding well)

  pub tree-plain : (made : Contents) → made ≡ module_of d coding → Plain made.decls
  tree-plain made same = subst (λ (m : Contents). Plain m.decls) (sym same) (module-plain d coding well)

pub tree-keeps : (d : Description) (coding : Coding) (made : Contents) → made ≡ module_of d coding → KeepsAll made.decls
tree-keeps d coding made same = subst (λ (m : Contents). KeepsAll m.decls) (sym same) (translated-kept (names_of d) coding d.decls)

pub formed : (text : List ℕ) (coding : Coding) (made : Contents) → Describes text coding made → is_module made ≡ true
formed text coding made h = subst (λ (m : Contents). is_module m ≡ true) (sym h.contents_is) (tree-formed h.tree (resolved h.tree) coding h.accepted.kept refl)

pub sorted : (text : List ℕ) (coding : Coding) (made : Contents) → Describes text coding made → Sorted made.decls
sorted text coding made h = tree-sorted h.tree (resolved h.tree) coding h.accepted.kept refl made h.contents_is

pub plain : (text : List ℕ) (coding : Coding) (made : Contents) → Describes text coding made → Plain made.decls
plain text coding made h = tree-plain h.tree (resolved h.tree) coding h.accepted.kept refl made h.contents_is

pub keeps : (text : List ℕ) (coding : Coding) (made : Contents) → Describes text coding made → KeepsAll made.decls
keeps text coding made h = tree-keeps (resolved h.tree) coding made h.contents_is

-- Each accepted text describes something.
pub there : (text : List ℕ) (coding : Coding) (tree : Ast) → IsAccepted text tree → (made : Contents) × Describes text coding made
there text coding tree h = (contents_in coding tree, record { tree = tree; accepted = h; contents_is = refl })

-- What an accepted tree resolves to is translated to what the text describes.
pub describes : (text : List ℕ) (tree : Ast) (coding : Coding) (d : Description) (made : Contents) → IsAccepted text tree → d ≡ resolved tree → made ≡ module_of d coding
    → Describes text coding made
describes text tree coding d made h same is =
    record { tree = tree; accepted = h; contents_is = is ∙ ap (λ (d : Description). module_of d coding) same }
