use Rattle.std.proofs.Common.{◌≡◌, ◌∙◌, sym, ap, refl, flat_map, ◌∷◌, [], ◌++◌}
use Rattle.pads_ast.specs.declared.expr.Expr.{Expr}
use Rattle.pads_ast.specs.declared.expr.Link.{Link}
use Rattle.pads_ast.specs.declared.expr.Step.{Step}
use Rattle.pads_ast.specs.NameTokens.{names_in_expr}
use Rattle.pads_ast.proofs.ExprNames.{names_in-Unary, names_in-Name, names_in-Paren, names_in-Pis, names_in-Plen, names_in-Pforall}
use Rattle.pads_counts.specs.Met.{met, names_behind}
use Rattle.pads_counts.proofs.MetLaws.{met-nil, both, one-alone, spelled-as, then, then-one, one, one-more}
use Rattle.pads_counts.proofs.ExprLaws.{in-Chain, in-Post, nameless}
use Rattle.pads_counts.proofs.in_expr.+meet.Goals as goal
use Rattle.pads_counts.proofs.in_expr.+meet.Goals.{meet_steps-in-Name+in_ok-meet_name-in-Name, meet_steps-in-Index+in_ok-meet_expr-in-Index}

pub meet_expr-returns-in_ok-meet_expr-in-Chain : goal.meet_expr-returns-in_ok-meet_expr-in-Chain
meet_expr-returns-in_ok-meet_expr-in-Chain t c = record {
  met =
      then c.meet_links.result c.args.names.now c.meet_expr.new.names c.meet_links.new.names _ _ _ _
      (ap names_in_expr c.in-Chain.is ∙ in-Chain _ _)
      (ap (flat_map (λ (link : Link Expr). names_in_expr link.operand)) c.as_slice.ensures.items)
      (c.in_ok-meet_expr-in-Chain.ensures.met ∙ ap (λ e. met c.args.names.now (names_in_expr e)) c.get.ensures.value)
      c.meet_links.ensures.met;
}

pub meet_expr-returns-in-Unary : goal.meet_expr-returns-in-Unary
meet_expr-returns-in-Unary t c = record {
  met =
      spelled-as c.meet_expr-in-Unary.result c.args.names.now c.meet_expr-in-Unary.new.names _ _
      (ap names_in_expr c.get-in-Unary.ensures.value ∙ sym (ap names_in_expr c.in-Unary.is ∙ names_in-Unary _ _ _))
      c.meet_expr-in-Unary.ensures.met;
}

pub meet_expr-returns-in_ok-meet_expr-in-Post : goal.meet_expr-returns-in_ok-meet_expr-in-Post
meet_expr-returns-in_ok-meet_expr-in-Post t c = record {
  met =
      then c.meet_steps.result c.args.names.now c.meet_expr-in-Post.new.names c.meet_steps.new.names _ _ _ _
      (ap names_in_expr c.in-Post.is ∙ in-Post _ _)
      (ap (flat_map names_behind) c.as_slice-in-Post.ensures.items)
      (c.in_ok-meet_expr-in-Post.ensures.met ∙ ap (λ e. met c.args.names.now (names_in_expr e)) c.get-in-Post.ensures.value)
      c.meet_steps.ensures.met;
}

pub meet_expr-returns-in-Name : goal.meet_expr-returns-in-Name
meet_expr-returns-in-Name t c = record {
  met = one c.meet_name.result c.args.names.now c.meet_name.new.names c.in-Name.name.text _ (ap names_in_expr c.in-Name.is ∙ names_in-Name _) c.meet_name.ensures.met;
}

pub meet_expr-returns-in-Paren : goal.meet_expr-returns-in-Paren
meet_expr-returns-in-Paren t c = record {
  met =
      spelled-as c.meet_expr-in-Paren.result c.args.names.now c.meet_expr-in-Paren.new.names _ _
      (ap names_in_expr c.get-in-Paren.ensures.value ∙ sym (ap names_in_expr c.in-Paren.is ∙ names_in-Paren _ _))
      c.meet_expr-in-Paren.ensures.met;
}

pub meet_expr-returns-in_ok-meet_expr-in-Pis : goal.meet_expr-returns-in_ok-meet_expr-in-Pis
meet_expr-returns-in_ok-meet_expr-in-Pis t c = record {
  met =
      then-one c.meet_name-in-Pis.result c.args.names.now c.meet_expr-in-Pis.new.names c.meet_name-in-Pis.new.names _ c.in-Pis.name.text _
      (ap names_in_expr c.in-Pis.is ∙ names_in-Pis _ _ _)
      (c.in_ok-meet_expr-in-Pis.ensures.met ∙ ap (λ e. met c.args.names.now (names_in_expr e)) c.get-in-Pis.ensures.value)
      c.meet_name-in-Pis.ensures.met;
}

pub meet_expr-returns-in-Plen : goal.meet_expr-returns-in-Plen
meet_expr-returns-in-Plen t c = record {
  met =
      spelled-as c.meet_expr-in-Plen.result c.args.names.now c.meet_expr-in-Plen.new.names _ _
      (ap names_in_expr c.get-in-Plen.ensures.value ∙ sym (ap names_in_expr c.in-Plen.is ∙ names_in-Plen _ _))
      c.meet_expr-in-Plen.ensures.met;
}

pub meet_expr-returns-in_ok-meet_expr-in-Pforall-2 : goal.meet_expr-returns-in_ok-meet_expr-in-Pforall-2
meet_expr-returns-in_ok-meet_expr-in-Pforall-2 t c = record {
  met =
      then c.meet_expr-in-Pforall-3.result c.args.names.now c.meet_expr-in-Pforall-2.new.names c.meet_expr-in-Pforall-3.new.names
      (c.in-Pforall.variable.text ∷ (names_in_expr c.in-Pforall.low ++ names_in_expr c.in-Pforall.high)) (names_in_expr c.in-Pforall.body) _ _
      (ap names_in_expr c.in-Pforall.is ∙ names_in-Pforall _ _ _ _ _)
      (ap names_in_expr c.get-in-Pforall-3.ensures.value)
      (both c.args.names.now c.meet_name-in-Pforall.new.names c.meet_expr-in-Pforall-2.new.names (c.in-Pforall.variable.text ∷ []) (names_in_expr c.in-Pforall.low ++ names_in_expr c.in-Pforall.high)
      (c.in_ok-meet_name-in-Pforall.ensures.met ∙ one-alone c.args.names.now c.in-Pforall.variable.text)
      (both c.meet_name-in-Pforall.new.names c.meet_expr-in-Pforall.new.names c.meet_expr-in-Pforall-2.new.names (names_in_expr c.in-Pforall.low) (names_in_expr c.in-Pforall.high)
      (c.in_ok-meet_expr-in-Pforall.ensures.met ∙ ap (λ e. met c.meet_name-in-Pforall.new.names (names_in_expr e)) c.get-in-Pforall.ensures.value)
      (c.in_ok-meet_expr-in-Pforall-2.ensures.met ∙ ap (λ e. met c.meet_expr-in-Pforall.new.names (names_in_expr e)) c.get-in-Pforall-2.ensures.value)))
      c.meet_expr-in-Pforall-3.ensures.met;
}

pub meet_expr-returns-in-Number : goal.meet_expr-returns-in-Number
meet_expr-returns-in-Number t c = record { met = sym (ap (met c.args.names.now) (nameless _ c.in-Number.is) ∙ met-nil c.args.names.now) }

pub meet_expr-returns-in-Number-2 : goal.meet_expr-returns-in-Number-2
meet_expr-returns-in-Number-2 t c = record { met = sym (ap (met c.args.names.now) (nameless _ c.in-Number.is) ∙ met-nil c.args.names.now) }

pub meet_expr-returns-in-Number-3 : goal.meet_expr-returns-in-Number-3
meet_expr-returns-in-Number-3 t c = record { met = sym (ap (met c.args.names.now) (nameless _ c.in-Number.is) ∙ met-nil c.args.names.now) }

pub meet_links-loop-link-init : goal.meet_links-loop-link-init
meet_links-loop-link-init t c = sym (met-nil c.args.names.now)

pub meet_links-loop-link-preserved : goal.meet_links-loop-link-preserved
meet_links-loop-link-preserved t c =
    one-more (λ (link : Link Expr). names_in_expr link.operand) c.args.links.now c.loop-link.link-index c.link-item.result c.args.names.now c.loop-link.names c.meet_expr.new.names
    c.loop-link-test.true c.link-item.is c.loop-link.invariant c.in_ok-meet_expr.ensures.met

pub meet_steps-loop-next-init : goal.meet_steps-loop-next-init
meet_steps-loop-next-init t c = sym (met-nil c.args.names.now)

pub meet_steps-loop-next-preserved : goal.meet_steps-loop-next-preserved
meet_steps-loop-next-preserved t c =
    one-more names_behind c.args.steps.now c.loop-next.next-index c.next-item.result c.args.names.now c.loop-next.names c.match-next.names c.loop-next-test.true c.next-item.is
    c.loop-next.invariant
    (elim c.match-next.branch [
      | meet_steps-in-Name+in_ok-meet_name-in-Name w ↦
          w.names-is ∙ w.in_ok-meet_name-in-Name.ensures.met ∙ one-alone c.loop-next.names w.in-Name.name.text ∙ ap (λ (s : Step Expr). met c.loop-next.names (names_behind s)) (sym w.in-Name.is)
      | meet_steps-in-Index+in_ok-meet_expr-in-Index w ↦
          w.names-is ∙ w.in_ok-meet_expr-in-Index.ensures.met ∙ ap (λ (s : Step Expr). met c.loop-next.names (names_behind s)) (sym w.in-Index.is)
    ])
