use Rattle.std.proofs.Common.{◌∙◌, sym, ap, refl, map, flat_map, ◌++◌, append_assoc}
use Rattle.std.proofs.lemmas.List.Concat.{flat_map-append}
use Rattle.std.proofs.lemmas.List.Folds.{flat_map-map}
use Rattle.pads_ast.specs.declared.decl.Case.{Case}
use Rattle.pads_ast.specs.NameTokens.{Names, names_in_expr, names_in_branch}
use Rattle.pads_ast.specs.Trees.{listed}
use Rattle.pads_counts.specs.Met.{met}
use Rattle.pads_counts.proofs.MetLaws.{both, then}
use Rattle.pads_counts.proofs.in_decl.meet_switch.Goals as goal

pub returns : goal.returns
returns c =
    let value = names_in_expr c.args.switch.now.value in
    let branches = map (λ (case : Case). case.branch) c.args.switch.now.cases in
    let in_cases = flat_map names_in_branch branches in
    let in_default = flat_map names_in_branch (listed c.args.switch.now.default) in
    record {
      met =
          then c.meet_default.result c.args.names.now c.meet_cases.new.names c.meet_default.new.names (value ++ in_cases) in_default _ in_default
          (ap (λ (names : Names). value ++ names) (flat_map-append names_in_branch branches (listed c.args.switch.now.default)) ∙ sym (append_assoc value in_cases in_default))
          refl
          (both c.args.names.now c.meet_expr.new.names c.meet_cases.new.names value in_cases c.in_ok-meet_expr.ensures.met
          (c.in_ok-meet_cases.ensures.met ∙ ap (λ cases. met c.meet_expr.new.names (flat_map (λ (case : Case). names_in_branch case.branch) cases)) c.as_slice.ensures.items
          ∙ ap (met c.meet_expr.new.names) (sym (flat_map-map names_in_branch (λ (case : Case). case.branch) c.args.switch.now.cases))))
          c.meet_default.ensures.met;
    }
