-- One token decides at each place of a description.
use Rattle.std.proofs.Common.{Bool, true, ◌||◌, ◌&&◌, refl}
use Rattle.pads_grammar.specs.declared.kind.Kind.{Kind}
use Rattle.pads_lex.specs.declared.token.Keyword.{Keyword}
use Rattle.pads_lex.specs.declared.token.Keyword.TheVariants.{Parray, Pstruct, Punion, Pwhere}
use Rattle.pads_lex.specs.declared.token.Mark.TheVariants.{CloseBrace, Colon, OpenParams, Semicolon}
use Rattle.pads_grammar.specs.declared.kind.Kind.TheVariants as kind
use Rattle.pads_grammar.specs.Kinds.{is}
use Rattle.pads_grammar.specs.Grammar.{begins, ahead, Apart, Decides, mark}
use Rattle.pads_grammar.proofs.Disjoint.{apart_by, within_by}
use Rattle.pads_syntax_expr.proofs.ExprDecides.{any_on}
use Rattle.pads_syntax_parts.specs.Types.{type_use, params, branch, literal}
use Rattle.pads_syntax_parts.specs.Parts.{part, condition, refinement}
use Rattle.pads_syntax_parts.proofs.Outermost.{expression_ok, solid_expression, apart_to}
use Rattle.pads_syntax_parts.proofs.TypeDecides.{type_use_ok, params_ok, branch_ok}
use Rattle.pads_syntax_parts.proofs.PartDecides.{part_ok, condition_ok, array_options_ok, labels_ok, refinement_ok}
use Rattle.pads_syntax.specs.Switches.{switch}
use Rattle.pads_syntax.specs.Declarations.{signature, heading, struct_decl, union_body, union_decl, sized, array_body, array_decl, enum_heading, enum_decl, typedef_decl, opt_decl, decl_mark, decl_body, other_body, marked, decl, decls}
use Rattle.pads_syntax.proofs.SwitchDecides.{switch_ok}

signature_ok : (F : Kind → Bool) → Apart (is (kind.Mark OpenParams)) F → Decides signature F
unfolding signature
signature_ok F f = (refl, (params_ok F, refl, λ j b. f j (within_by (begins params) (is (kind.Mark OpenParams)) refl j b)))

heading_ok : (k : Keyword) (F : Kind → Bool) → Decides (heading k) F
heading_ok k F = ((refl, signature_ok _ (apart_by (is (kind.Mark OpenParams)) _ refl)), refl)

struct_decl_ok : (F : Kind → Bool) → Apart (is (kind.Keyword Pwhere)) F → Decides struct_decl F
unfolding struct_decl part literal branch type_use condition
struct_decl_ok F f = (
  ((heading_ok Pstruct F, (part_ok F, refl, apart_by _ _ refl, refl)), refl),
  (condition_ok F, refl, λ j b. f j (within_by (begins condition) (is (kind.Keyword Pwhere)) refl j b)),
)

union_body_ok : (F : Kind → Bool) → Decides union_body (ahead (mark CloseBrace) F)
unfolding union_body switch branch type_use
union_body_ok F = (switch_ok F, (branch_ok F, refl, apart_by _ _ refl, refl), refl, apart_by _ _ refl)

union_decl_ok : (F : Kind → Bool) → Decides union_decl F
unfolding union_decl
union_decl_ok F = ((heading_ok Punion F, union_body_ok F), refl)

sized_ok : (F : Kind → Bool) → Decides sized F
unfolding sized
sized_ok F = (
  ((type_use_ok _ (apart_by (is (kind.Mark OpenParams)) _ refl), refl), (expression_ok _ (apart_by any_on _ refl), solid_expression, apart_to _ refl)),
  refl,
)

array_body_ok : (F : Kind → Bool) → Decides array_body F
unfolding array_body
array_body_ok F = ((array_options_ok (ahead (mark CloseBrace) F), refl), refl)

array_decl_ok : (F : Kind → Bool) → Apart (is (kind.Keyword Pwhere)) F → Decides array_decl F
unfolding array_decl condition
array_decl_ok F f = (
  ((heading_ok Parray F, sized_ok _), array_body_ok _),
  (condition_ok F, refl, λ j b. f j (within_by (begins condition) (is (kind.Keyword Pwhere)) refl j b)),
)

enum_heading_ok : (F : Kind → Bool) → Decides enum_heading F
enum_heading_ok F = ((refl, refl), refl)

enum_decl_ok : (F : Kind → Bool) → Decides enum_decl F
unfolding enum_decl
enum_decl_ok F = ((enum_heading_ok F, labels_ok F), refl)

typedef_decl_ok : (F : Kind → Bool) → Apart (is (kind.Mark OpenParams)) F → Apart (is (kind.Mark Colon)) F → Decides typedef_decl F
unfolding typedef_decl refinement signature
typedef_decl_ok F f c = (
  ((refl, type_use_ok _ (apart_by (is (kind.Mark OpenParams)) _ refl)), signature_ok _ (λ j b. opens j b)),
  (refinement_ok F, refl, λ j b. c j (within_by (begins refinement) (is (kind.Mark Colon)) refl j b)),
)
  where
    opens : Apart (is (kind.Mark OpenParams)) (λ j. begins refinement j || (true && F j))
    opens j b = rw (f j b, apart_by (is (kind.Mark OpenParams)) (begins refinement) refl j b) refl

opt_decl_ok : (F : Kind → Bool) → Apart (is (kind.Mark OpenParams)) F → Decides opt_decl F
unfolding opt_decl signature
opt_decl_ok F f = ((refl, type_use_ok _ (apart_by (is (kind.Mark OpenParams)) _ refl)), signature_ok F f)

decl_mark_ok : (F : Kind → Bool) → Decides decl_mark F
decl_mark_ok F = (refl, (refl, refl, refl, apart_by _ _ refl), refl, apart_by _ _ refl)

other_body_ok : (F : Kind → Bool) → Decides other_body (ahead (mark Semicolon) F)
unfolding other_body enum_decl typedef_decl opt_decl
other_body_ok F = (
  enum_decl_ok (ahead (mark Semicolon) F),
  (typedef_decl_ok (ahead (mark Semicolon) F) (apart_by (is (kind.Mark OpenParams)) _ refl) (apart_by (is (kind.Mark Colon)) _ refl), opt_decl_ok (ahead (mark Semicolon) F) (apart_by (is (kind.Mark OpenParams)) _ refl), refl, apart_by _ _ refl),
  refl,
  apart_by _ _ refl,
)

decl_body_ok : (F : Kind → Bool) → Decides decl_body (ahead (mark Semicolon) F)
unfolding decl_body other_body struct_decl union_decl array_decl enum_decl typedef_decl opt_decl
decl_body_ok F = (
  struct_decl_ok (ahead (mark Semicolon) F) (apart_by (is (kind.Keyword Pwhere)) _ refl),
  (union_decl_ok (ahead (mark Semicolon) F), (array_decl_ok (ahead (mark Semicolon) F) (apart_by (is (kind.Keyword Pwhere)) _ refl), other_body_ok F, refl, apart_by _ _ refl), refl, apart_by _ _ refl),
  refl,
  apart_by _ _ refl,
)

decl_ok : (F : Kind → Bool) → Decides decl F
unfolding decl marked decl_body other_body struct_decl union_decl array_decl enum_decl typedef_decl opt_decl
decl_ok F = (((decl_mark_ok F, refl, apart_by _ _ refl), decl_body_ok F), refl)

-- Nothing follows a description but its end.
pub decls_ok : Decides decls (is kind.End)
unfolding decl marked decl_body other_body struct_decl union_decl array_decl enum_decl typedef_decl opt_decl
decls_ok = (decl_ok (is kind.End), refl, apart_by _ _ refl, refl)
