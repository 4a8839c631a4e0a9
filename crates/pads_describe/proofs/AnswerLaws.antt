-- Each text has at most one answer.
use Rattle.std.proofs.Common.{◌≡◌, ℕ, ◌∙◌, sym, ap, subst, refl, Bool, true, false, List, [], Option, Some, arith}
use Rattle.pads_ast.specs.declared.decl.Ast.{Ast}
use Rattle.pads_grammar.specs.Kinds.{Tokens}
use Rattle.pads_lex.proofs.CutLaws.{one_cut, one_break, no_cut_breaks}
use Rattle.pads_lex.specs.declared.fault.LexKind.{LexKind}
use Rattle.pads_rules.specs.declared.fault.CheckFault.{CheckFault}
use Rattle.pads_rules.specs.declared.rule.Rule.{Rule}
use Rattle.pads_rules.specs.Faults.{breaks, least}
use Rattle.pads_rules.specs.Violations.{violations}
use Rattle.pads_syntax.specs.Trees.{IsTree, IsTreeFault, StandsAt}
use Rattle.pads_syntax.proofs.Trees as trees
use Rattle.pads_describe.specs.declared.verdict.Verdict.{Verdict}
use Rattle.pads_describe.specs.declared.verdict.Verdict.TheVariants as verdict
use Rattle.pads_code.specs.declared.Coding.{Coding}
use Rattle.pads_module.specs.Modules.{Contents}
use Rattle.pads_trans.specs.Modules.{is_module}
use Rattle.pads_describe.specs.Describing.{Describes, contents_in}
use Rattle.pads_describe.specs.Trees.{HasTokens, HasTree, IsAccepted}
use Rattle.pads_describe.specs.Verdicts.{IsLexical, IsSyntax, IsRule, IsRefused}

one_list : (text : List ℕ) (ts us : Tokens) → HasTokens text ts → HasTokens text us → ts ≡ us
one_list text ts us h k = one_cut text ts us h.cut k.cut

pub one_tree : (text : List ℕ) (one other : Ast) → HasTree text one → HasTree text other → one ≡ other
one_tree text one other h k =
    let same = one_list text k.tokens h.tokens k.has_tokens h.has_tokens in
    trees.one_description h.tokens one other h.derived (subst (λ (ts : Tokens). IsTree other ts) same k.derived)

same_place : (ts : Tokens) (token at place : ℕ) → StandsAt ts token at → StandsAt ts token place → at ≡ place
same_place ts token at place h k = let e : Some at ≡ Some place = sym h ∙ k in cc

one_syntax : (text : List ℕ) (token at other place : ℕ) → IsSyntax text token at → IsSyntax text other place → (token ≡ other) × (at ≡ place)
one_syntax text token at other place h k =
    let same = one_list text k.tokens h.tokens k.has_tokens h.has_tokens in
    let number = trees.one_tree_fault h.tokens token other h.fault (subst (λ (ts : Tokens). IsTreeFault ts other) same k.fault) in
    let there = subst (λ (ts : Tokens). StandsAt ts other place) same k.place in
    (number, same_place h.tokens token at place h.place (subst (λ n. StandsAt h.tokens n place) (sym number) there))

same_rule : (first : Option CheckFault) (rule other : Rule) (at place : ℕ) → first ≡ Some (breaks rule at) → first ≡ Some (breaks other place) → (rule ≡ other) × (at ≡ place)
same_rule first rule other at place h k =
    let e : Some (breaks rule at) ≡ Some (breaks other place) = sym h ∙ k in
    let same : breaks rule at ≡ breaks other place = cc in
    (ap (λ (f : CheckFault). f.rule) same, ap (λ (f : CheckFault). f.at) same)

one_rule : (text : List ℕ) (rule other : Rule) (at place : ℕ) → IsRule text rule at → IsRule text other place → (rule ≡ other) × (at ≡ place)
one_rule text rule other at place h k =
    let same = one_tree text k.tree h.tree k.has_tree h.has_tree in
    same_rule (least (violations h.tree)) rule other at place h.first (subst (λ (t : Ast). least (violations t) ≡ Some (breaks other place)) same k.first)

no_tokens_break : (text : List ℕ) (ts : Tokens) (kind : LexKind) (at : ℕ) → HasTokens text ts → IsLexical text kind at → ⊥
no_tokens_break text ts kind at h k = no_cut_breaks text ts kind at h.cut k.broken

no_tree_faults : (text : List ℕ) (tree : Ast) (token at : ℕ) → HasTree text tree → IsSyntax text token at → ⊥
no_tree_faults text tree token at h k =
    let same = one_list text k.tokens h.tokens k.has_tokens h.has_tokens in
    trees.no_tree_and_fault h.tokens tree token h.derived (subst (λ (ts : Tokens). IsTreeFault ts token) same k.fault)

same_lexical : (one other : LexKind) (at place : ℕ) → one ≡ other → at ≡ place → verdict.Lexical one at ≡ verdict.Lexical other place
same_lexical one other at place e f = cc

same_syntax : (token other at place : ℕ) → token ≡ other → at ≡ place → verdict.Syntax token at ≡ verdict.Syntax other place
same_syntax token other at place e f = cc

same_violation : (rule other : Rule) (at place : ℕ) → rule ≡ other → at ≡ place → verdict.Rule rule at ≡ verdict.Rule other place
same_violation rule other at place e f = cc

pub one_verdict : (text : List ℕ) (one other : Verdict) → IsRefused text one → IsRefused text other → one ≡ other
one_verdict text verdict.TooLong verdict.TooLong h k = refl
one_verdict text verdict.TooLong (verdict.Lexical kind at) h k = absurd (omega (arith, h, k.short))
one_verdict text verdict.TooLong (verdict.Syntax token at) h k = absurd (omega (arith, h, k.has_tokens.short))
one_verdict text verdict.TooLong (verdict.Rule rule at) h k = absurd (omega (arith, h, k.has_tree.has_tokens.short))
one_verdict text (verdict.Lexical kind at) verdict.TooLong h k = absurd (omega (arith, k, h.short))
one_verdict text (verdict.Lexical kind at) (verdict.Lexical other place) h k =
    let same = one_break text kind other at place h.broken k.broken in same_lexical kind other at place same.0 same.1
one_verdict text (verdict.Lexical kind at) (verdict.Syntax token place) h k = absurd (no_tokens_break text k.tokens kind at k.has_tokens h)
one_verdict text (verdict.Lexical kind at) (verdict.Rule rule place) h k = absurd (no_tokens_break text k.has_tree.tokens kind at k.has_tree.has_tokens h)
one_verdict text (verdict.Syntax token at) verdict.TooLong h k = absurd (omega (arith, k, h.has_tokens.short))
one_verdict text (verdict.Syntax token at) (verdict.Lexical kind place) h k = absurd (no_tokens_break text h.tokens kind place h.has_tokens k)
one_verdict text (verdict.Syntax token at) (verdict.Syntax other place) h k =
    let same = one_syntax text token at other place h k in same_syntax token other at place same.0 same.1
one_verdict text (verdict.Syntax token at) (verdict.Rule rule place) h k = absurd (no_tree_faults text k.tree token at k.has_tree h)
one_verdict text (verdict.Rule rule at) verdict.TooLong h k = absurd (omega (arith, k, h.has_tree.has_tokens.short))
one_verdict text (verdict.Rule rule at) (verdict.Lexical kind place) h k = absurd (no_tokens_break text h.has_tree.tokens kind place h.has_tree.has_tokens k)
one_verdict text (verdict.Rule rule at) (verdict.Syntax token place) h k = absurd (no_tree_faults text h.tree token place h.has_tree k)
one_verdict text (verdict.Rule rule at) (verdict.Rule other place) h k =
    let same = one_rule text rule other at place h k in same_violation rule other at place same.0 same.1

nothing_first : (tree : Ast) (fault : CheckFault) → violations tree ≡ [] → least (violations tree) ≡ Some fault → ⊥
nothing_first tree fault none first = let e : least [] ≡ Some fault = sym (ap least none) ∙ first in cc

pub not_both : (text : List ℕ) (tree : Ast) (v : Verdict) → IsAccepted text tree → IsRefused text v → ⊥
not_both text tree verdict.TooLong h k = omega (arith, k, h.has_tree.has_tokens.short)
not_both text tree (verdict.Lexical kind at) h k = no_tokens_break text h.has_tree.tokens kind at h.has_tree.has_tokens k
not_both text tree (verdict.Syntax token at) h k = no_tree_faults text tree token at h.has_tree k
not_both text tree (verdict.Rule rule at) h k =
    let same = one_tree text k.tree tree k.has_tree h.has_tree in
    nothing_first tree (breaks rule at) h.kept (subst (λ (t : Ast). least (violations t) ≡ Some (breaks rule at)) same k.first)

pub not_refused : (text : List ℕ) (coding : Coding) (made : Contents) (v : Verdict) → Describes text coding made → IsRefused text v → ⊥
not_refused text coding made v h k = not_both text h.tree v h.accepted k

pub one_description : (text : List ℕ) (coding : Coding) (one other : Contents) → Describes text coding one → Describes text coding other → one ≡ other
one_description text coding one other h k =
    h.contents_is ∙ ap (contents_in coding) (one_tree text h.tree k.tree h.accepted.has_tree k.accepted.has_tree) ∙ sym k.contents_is
