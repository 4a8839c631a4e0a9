use Rattle.std.proofs.Common.{sym, subst}
use Rattle.pads_grammar.specs.Kinds.{Tokens}
use Rattle.pads_lex.proofs.CutLaws.{one_cut}
use Rattle.pads_syntax.proofs.Trees as trees
use Rattle.pads_syntax.specs.Trees.{IsTree}
use Rattle.pads_question.proofs.tree.tree_in.Goals as goal

pub returns-in-Ok-parse : goal.returns-in-Ok-parse
returns-in-Ok-parse c = record {
  tree = λ tree accepted.
      let has = accepted.has_tree in
      let same = one_cut c.args.text.now _ has.tokens c.in-Ok.ensures.found has.has_tokens.cut in
      trees.one_description _ c.in-Ok-parse.tree tree c.in-Ok-parse.ensures.found (subst (λ (ts : Tokens). IsTree tree ts) (sym same) has.derived);
}
