use Rattle.std.proofs.Common.{◌∙◌, sym, ap}
use Rattle.pads_lex.specs.declared.token.Mark.TheVariants.{Comma}
use Rattle.pads_grammar.specs.declared.kind.Kind.TheVariants as kind
use Rattle.pads_grammar.specs.Kinds.{is}
use Rattle.pads_syntax_parts.proofs.TypeLoops.{args_go, args_shorten}
use Rattle.pads_syntax_parts.proofs.types.arg_list.Goals as goal

pub more-smaller : goal.more-smaller
more-smaller c = args_shorten c.more.cursor c.next_arg.new.cursor c.in_ok-next_arg.field-0 c.in_ok-next_arg.ensures.reads

pub more-preserved : goal.more-preserved
more-preserved c = rw c.in_ok-push-2.ensures.ok (args_go _ c.more.args c.more.cursor c.next_arg.new.cursor c.in_ok-next_arg.field-0
    (ap (is (kind.Mark Comma)) (sym c.peek.ensures.kind) ∙ (sym c.is_mark.ensures.same ∙ c.more-test.true)) c.in_ok-next_arg.ensures.reads c.more.invariant)
