-- A description without violations resolves to a well-sorted one.
use Rattle.std.proofs.Common.{◌≡◌, []}
use Rattle.pads_ast.specs.declared.decl.Ast.{Ast}
use Rattle.pads_resolution.specs.Resolution.{resolved}
use Rattle.pads_rules.specs.Violations.{violations}
use Rattle.law_descriptions.specs.WellSorted.{WellSorted}
use Rattle.law_descriptions.specs.Known.{known_sorts}
use Rattle.law_descriptions.proofs.Count.{few-names}
use Rattle.law_descriptions.proofs.Source.{tree-few, tree-header, tree-source}
use Rattle.law_descriptions.proofs.SortsAre.{tree-sorts}
use Rattle.law_descriptions.proofs.AcceptedWhole.{tree-sorted}

pub well-sorted : (tree : Ast) → violations tree ≡ [] → WellSorted (resolved tree)
well-sorted tree none = record {
  sorts = known_sorts tree;
  are = tree-sorts tree none;
  decls = tree-sorted tree none;
  few_decls = tree-few tree none;
  few_names = few-names tree none;
  header = tree-header tree none;
  record_type = tree-source tree none;
}
