use Rattle.std.proofs.Common.{◌∙◌, sym, ap}
use Rattle.std.proofs.lemmas.Result.{err_from_is_err_and}
use Rattle.pads_grammar.specs.Grammar.{begins}
use Rattle.pads_syntax_parts.specs.Parts.{part}
use Rattle.pads_syntax_parts.proofs.PartLoops.{parts_go, parts_refuse, parts_shorten}
use Rattle.pads_syntax_parts.proofs.structure.parts.Goals as goal

pub parts-smaller : goal.parts-smaller
parts-smaller c = parts_shorten c.parts.cursor c.part.new.cursor c.in_ok-part.field-0 c.in_ok-part.ensures.reads

pub parts-preserved : goal.parts-preserved
parts-preserved c = rw c.in_ok-push.ensures.ok (parts_go _ c.parts.parts c.parts.cursor c.part.new.cursor c.in_ok-part.field-0
    (ap (begins part) (sym c.peek.ensures.kind) ∙ (sym c.begins_part.ensures.begins ∙ c.parts-test.true)) c.in_ok-part.ensures.reads c.parts.invariant)

pub returns-in_err-part : goal.returns-in_err-part
returns-in_err-part c =
    let p = err_from_is_err_and c.from_residual.result c.from_residual.ensures.1 in
    record {
      reads = rw (p.1, p.2) (parts_refuse _ c.parts.parts c.parts.cursor c.part.new.cursor c.in_err-part.field-0.0
          (ap (begins part) (sym c.peek.ensures.kind) ∙ (sym c.begins_part.ensures.begins ∙ c.parts-test.true)) c.in_err-part.ensures.reads c.parts.invariant);
    }
