use Rattle.std.proofs.Common.{◌∙◌, sym, ap, ◌&&◌, nat_eq, Some, if◌then◌else◌, arith}
use Rattle.std.specs.Option.{option_or}
use Rattle.std.proofs.lemmas.Option.{slice_get-get_or}
use Rattle.std.proofs.lemmas.Result.{on_ok_weaker}
use Rattle.pads_accum.specs.Routes.{in_table, is_number, number_of}
use Rattle.pads_accum.proofs.Entries.{row_set}
use Rattle.pads_accum.proofs.Routing.{number_within}
use Rattle.pads_accum.proofs.below.note.Goals as goal

pub returns-clause-noted : goal.returns-clause-noted
returns-clause-noted c =
    let table = c.args.table.now.items in
    let u = c.args.part.now.up in
    let form_is = ap (λ f. number_of f c.args.part.now.step) c.form_at.ensures.form in
    let number = sym form_is ∙ sym c.in-Some.ensures.number in
    let within = number_within c.args.parts.now u c.in-Some.at c.args.part.now.step number in
    let there = slice_get-get_or table u c.index_mut.result.now (omega (arith, within, c.requires.rows)) ∙ ap Some (sym c.index_mut.ensures.value) in
    on_ok_weaker c.put.result
    (λ h up k.
    row_set table u c.index_mut.result.now c.put.new.row c.in-Some.at c.args.number there h up k
    ∙ ap (λ n. if nat_eq up u && is_number n k then option_or (in_table table up k) (Some c.args.number) else in_table table up k) (sym number))
    c.put.ensures.put
