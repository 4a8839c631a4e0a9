-- How many declarations an accepted description has: those of its module, whose image may be too large.
use Rattle.std.proofs.Common.{◌≡◌, ◌∙◌, ap, ℕ, List, length}
use Rattle.std.proofs.lemmas.List.{length-map}
use Rattle.std.proofs.lemmas.List.FromFn.{length-enumerate_from}
use Rattle.std.specs.List.{enumerate_from}
use Rattle.pads_ast.specs.declared.decl.Ast.{Ast}
use Rattle.pads_code.specs.declared.Coding.{Coding}
use Rattle.pads_describe.specs.Answers.{IsAcceptedWith}
use Rattle.pads_describe.specs.Describing.{Describes}
use Rattle.pads_module.specs.Modules.{Contents}
use Rattle.pads_resolution.specs.Resolution.{decl_at, resolved}
use Rattle.pads_rules.specs.Pieces.{sites}
use Rattle.pads_trans.specs.Met.{names_of}
use Rattle.pads_trans.specs.Terms.{decl_of}

resolved-count : (tree : Ast) → length (resolved tree).decls ≡ length tree.decls
unfolding resolved
resolved-count tree = length-map (sites tree.decls) decl_at ∙ length-map (enumerate_from 0 tree.decls) _ ∙ length-enumerate_from 0 tree.decls

pub accepted-with : (text : List ℕ) (coding : Coding) (made : Contents) → Describes text coding made → (count : ℕ) → count ≡ length made.decls → IsAcceptedWith text count
accepted-with text coding made d count is =
    let there : length made.decls ≡ length d.tree.decls =
    ap (λ (m : Contents). length m.decls) d.contents_is ∙ length-map (resolved d.tree).decls (decl_of (names_of (resolved d.tree)) coding) ∙ resolved-count d.tree in
    (d.tree, d.accepted, is ∙ there)
