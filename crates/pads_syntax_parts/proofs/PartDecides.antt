-- One token decides at each place of what stands inside of a declaration.
use Rattle.std.proofs.Common.{Bool, ◌||◌, refl}
use Rattle.pads_grammar.specs.declared.kind.Kind.{Kind}
use Rattle.pads_lex.specs.declared.token.Keyword.TheVariants.{Pfrom}
use Rattle.pads_lex.specs.declared.token.Mark.TheVariants.{And, CloseBrace, CloseParen, Comma, OpenParams, Semicolon}
use Rattle.pads_grammar.specs.declared.kind.Kind.TheVariants as kind
use Rattle.pads_grammar.specs.Kinds.{is}
use Rattle.pads_grammar.specs.Grammar.{rest_of, begins, ahead, Apart, Decides, mark}
use Rattle.pads_grammar.proofs.Disjoint.{apart_by, within_by}
use Rattle.pads_syntax_expr.proofs.ExprDecides.{any_on, word_ok}
use Rattle.pads_syntax_parts.specs.Parts.{literal_part, computed_name, computed_part, part, condition, separator, terminator, last_test, array_option, array_options, spelling, label, labels, refined_names, refinement}
use Rattle.pads_syntax_parts.specs.Types.{expression, type_use, branch, literal}
use Rattle.pads_syntax_parts.proofs.Outermost.{expression_ok}
use Rattle.pads_syntax_parts.proofs.TypeDecides.{listed_ok, ended, nothing, type_use_ok, branch_ok, literal_ok}

literal_part_ok : (F : Kind → Bool) → Decides literal_part F
unfolding literal
literal_part_ok F = (literal_ok (ahead (mark Semicolon) F), refl)

computed_name_ok : (F : Kind → Bool) → Decides computed_name F
computed_name_ok F = (((refl, type_use_ok _ (apart_by (is (kind.Mark OpenParams)) _ refl)), refl), refl)

computed_part_ok : (F : Kind → Bool) → Decides computed_part F
computed_part_ok F = ((computed_name_ok (ahead expression (ahead (mark Semicolon) F)), expression_ok _ (apart_by any_on _ refl)), refl)

pub part_ok : (F : Kind → Bool) → Decides part F
unfolding part literal branch type_use
part_ok F = (literal_part_ok F, (computed_part_ok F, branch_ok F, refl, apart_by _ _ refl), refl, apart_by _ _ refl)

pub condition_ok : (F : Kind → Bool) → Decides condition F
unfolding condition
condition_ok F = ((((refl, refl), expression_ok _ (apart_by any_on _ refl)), (refl, refl, apart_by _ _ refl)), refl)

separator_ok : (F : Kind → Bool) → Decides separator F
separator_ok F = (((refl, refl), word_ok (ahead (mark CloseParen) F)), refl)

terminator_ok : (F : Kind → Bool) → Decides terminator F
terminator_ok F = (((refl, refl), literal_ok (ahead (mark CloseParen) F)), refl)

last_test_ok : (F : Kind → Bool) → Decides last_test F
last_test_ok F = (((refl, refl), expression_ok _ (apart_by any_on _ refl)), refl)

array_option_ok : (F : Kind → Bool) → Decides array_option F
unfolding array_option
array_option_ok F = (separator_ok F, (terminator_ok F, last_test_ok F, refl, apart_by _ _ refl), refl, apart_by _ _ refl)

pub array_options_ok : (F : Kind → Bool) → Decides array_options (ahead (mark Semicolon) F)
array_options_ok F = (
  (refl, listed_ok And array_option ended (λ G g. array_option_ok G) (nothing (is (kind.Mark And))) _ (nothing _) (apart_by (is (kind.Mark And)) _ refl)),
  refl,
  apart_by _ _ refl,
)

spelling_ok : (F : Kind → Bool) → Decides spelling F
spelling_ok F = (((refl, refl), word_ok (ahead (mark CloseParen) F)), refl)

label_ok : (F : Kind → Bool) → Apart (is (kind.Keyword Pfrom)) F → Decides label F
unfolding label
label_ok F f = (refl, (spelling_ok F, refl, λ j b. f j (within_by (begins spelling) (is (kind.Keyword Pfrom)) refl j b)))

pub labels_ok : (F : Kind → Bool) → Decides labels (ahead (mark CloseBrace) F)
unfolding labels label
labels_ok F = (
  label_ok (ahead (rest_of (kind.Mark Comma) label) (ahead (mark CloseBrace) F)) (apart_by (is (kind.Keyword Pfrom)) _ refl),
  (label_ok (λ j. is (kind.Mark Comma) j || ahead (mark CloseBrace) F j) (apart_by (is (kind.Keyword Pfrom)) _ refl), refl, apart_by _ _ refl, refl, refl),
)

refined_names_ok : (F : Kind → Bool) → Decides refined_names F
refined_names_ok F = ((((refl, refl), refl), refl), refl)

pub refinement_ok : (F : Kind → Bool) → Decides refinement F
unfolding refinement
refinement_ok F = ((refined_names_ok (ahead expression (ahead (mark CloseBrace) F)), expression_ok _ (apart_by any_on _ refl)), refl)
