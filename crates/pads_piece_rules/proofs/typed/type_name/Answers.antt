use Rattle.std.proofs.Common.{◌≡◌, ◌∙◌, sym, ap, true, Some}
use Rattle.pads_rules.specs.declared.rule.Rule.{Rule}
use Rattle.pads_rules.specs.Faults.{breaks}
use Rattle.pads_rules.specs.PieceRules.{meaning_at, is_undeclared}
use Rattle.pads_piece_rules.specs.Told.{stands}
use Rattle.pads_piece_rules.proofs.LaterTypes.{told-later, told-unknown}
use Rattle.pads_piece_rules.proofs.typed.type_name.Goals as goal
use Rattle.pads_piece_rules.proofs.typed.type_name.Goals.{then-is_declared, else-is_declared}

pub returns : goal.returns
returns c =
    let nothing : is_undeclared (meaning_at (stands c.args.site.now) c.args.of.now) ≡ true = sym (c.if-not-is_undeclared.ensures.undeclared ∙ ap is_undeclared c.meaning_at.ensures.meaning) in
    record {
      told =
          elim c.if-is_declared.branch [
            | then-is_declared w ↦ ap (λ (rule : Rule). Some (breaks rule c.args.of.now.name.at)) w.rule-is ∙ told-later (stands c.args.site.now) c.args.of.now nothing w.if-is_declared.ensures.declared
            | else-is_declared w ↦ ap (λ (rule : Rule). Some (breaks rule c.args.of.now.name.at)) w.rule-is ∙ told-unknown (stands c.args.site.now) c.args.of.now nothing w.if-is_declared.ensures.declared
          ];
    }
