use Rattle.std.proofs.Common.{◌≡◌, ◌∙◌, sym, ap}
use Rattle.std.proofs.lemmas.Result.{IfOk-weaker}
use Rattle.pads_piece_rules.specs.Told.{stands}
use Rattle.pads_violations.specs.Repeats.{spellings_again_told}
use Rattle.pads_violations.specs.AtDeclaration.{spelling_again_told}
use Rattle.pads_violations.proofs.DeclarationLemmas.{told-spellings}
use Rattle.pads_violations.proofs.declaration.spelling_again.Goals as goal

pub returns : goal.returns
returns c = record {
  told =
      IfOk-weaker c.spellings_again.result (λ fault. fault ≡ spellings_again_told c.labels_of.result.now) (λ fault. fault ≡ spelling_again_told (stands c.args.site.now))
      (λ fault is. is ∙ ap spellings_again_told c.labels_of.ensures.items ∙ sym (told-spellings (stands c.args.site.now))) c.spellings_again.ensures.told;
}
