use Rattle.std.proofs.Common.{◌∙◌, sym, ap}
use Rattle.pads_lex.specs.declared.token.Mark.TheVariants.{Comma}
use Rattle.pads_grammar.specs.declared.kind.Kind.TheVariants as kind
use Rattle.pads_grammar.specs.Kinds.{is}
use Rattle.pads_syntax_parts.proofs.TypeLoops.{params_go, params_shorten}
use Rattle.pads_syntax_parts.proofs.types.param_list.Goals as goal

pub more-smaller : goal.more-smaller
more-smaller c = params_shorten c.more.cursor c.next_param.new.cursor c.in_ok-next_param.field-0 c.in_ok-next_param.ensures.reads

pub more-preserved : goal.more-preserved
more-preserved c = rw c.in_ok-push-2.ensures.ok (params_go _ c.more.params c.more.cursor c.next_param.new.cursor c.in_ok-next_param.field-0
    (ap (is (kind.Mark Comma)) (sym c.peek.ensures.kind) ∙ (sym c.is_mark.ensures.same ∙ c.more-test.true)) c.in_ok-next_param.ensures.reads c.more.invariant)
