use Rattle.std.proofs.Common.{◌∙◌, sym, ap}
use Rattle.pads_lex.specs.declared.token.Mark.TheVariants.{And}
use Rattle.pads_grammar.specs.declared.kind.Kind.TheVariants as kind
use Rattle.pads_grammar.specs.Kinds.{is}
use Rattle.pads_syntax_parts.proofs.PartLoops.{options_go, options_shorten}
use Rattle.pads_syntax_parts.proofs.array.option_list.Goals as goal

pub more-smaller : goal.more-smaller
more-smaller c = options_shorten c.more.cursor c.next_option.new.cursor c.in_ok-next_option.field-0 c.in_ok-next_option.ensures.reads

pub more-preserved : goal.more-preserved
more-preserved c = rw c.in_ok-push-2.ensures.ok (options_go _ c.more.options c.more.cursor c.next_option.new.cursor c.in_ok-next_option.field-0
    (ap (is (kind.Mark And)) (sym c.peek.ensures.kind) ∙ (sym c.is_mark.ensures.same ∙ c.more-test.true)) c.in_ok-next_option.ensures.reads c.more.invariant)
