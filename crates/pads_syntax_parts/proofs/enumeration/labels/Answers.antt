use Rattle.std.proofs.Common.{◌∙◌, sym, ap}
use Rattle.std.proofs.lemmas.Result.{err_from_is_err_and}
use Rattle.pads_lex.specs.declared.token.Mark.TheVariants.{Comma}
use Rattle.pads_grammar.specs.declared.kind.Kind.TheVariants as kind
use Rattle.pads_grammar.specs.Kinds.{is}
use Rattle.pads_syntax_parts.proofs.LabelLoop.{labels_go, labels_end_behind, labels_refuse, labels_shorten}
use Rattle.pads_syntax_parts.proofs.enumeration.labels.Goals as goal

pub labels-smaller : goal.labels-smaller
labels-smaller c = labels_shorten c.labels.cursor c.mark.new.self c.label-in-labels.new.cursor c.in_ok-_comma._comma c.in_ok-label-2.field-0 c.in_ok-_comma.ensures.reads c.in_ok-label-2.ensures.reads

pub labels-preserved : goal.labels-preserved
labels-preserved c = rw c.in_ok-push-2.ensures.ok (labels_go _ c.labels.labels c.labels.cursor c.mark.new.self c.in_ok-_comma._comma c.in_ok-label-2.field-0 c.label-in-labels.new.cursor
    (ap (is (kind.Mark Comma)) (sym c.peek.ensures.kind) ∙ (sym c.is_mark.ensures.same ∙ c.labels-test.true)) c.in_ok-_comma.ensures.reads
    (ap (is kind.Name) (sym c.peek-in-labels.ensures.kind) ∙ (sym c.is.ensures.same ∙ c.if-not-is.false)) c.in_ok-label-2.ensures.reads c.labels.invariant)

pub returns-then-not-is : goal.returns-then-not-is
returns-then-not-is c = record {
  reads = labels_end_behind _ c.labels.labels c.labels.cursor c.mark.new.self c.in_ok-_comma._comma
      (ap (is (kind.Mark Comma)) (sym c.peek.ensures.kind) ∙ (sym c.is_mark.ensures.same ∙ c.labels-test.true)) c.in_ok-_comma.ensures.reads
      (ap (is kind.Name) (sym c.peek-in-labels.ensures.kind) ∙ (sym c.is.ensures.same ∙ c.if-not-is.true)) c.labels.invariant;
}

pub returns-in_err-label-2 : goal.returns-in_err-label-2
returns-in_err-label-2 c =
    let p = err_from_is_err_and c.from_residual-in_err-label-2.result c.from_residual-in_err-label-2.ensures.1 in
    record {
      reads = rw (p.1, p.2) (labels_refuse _ c.labels.labels c.labels.cursor c.mark.new.self c.label-in-labels.new.cursor c.in_ok-_comma._comma c.in_err-label-2.field-0.0
          (ap (is (kind.Mark Comma)) (sym c.peek.ensures.kind) ∙ (sym c.is_mark.ensures.same ∙ c.labels-test.true)) c.in_ok-_comma.ensures.reads
          (ap (is kind.Name) (sym c.peek-in-labels.ensures.kind) ∙ (sym c.is.ensures.same ∙ c.if-not-is.false)) c.in_err-label-2.ensures.reads c.labels.invariant);
    }
