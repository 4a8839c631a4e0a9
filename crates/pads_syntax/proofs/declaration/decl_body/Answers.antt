use Rattle.std.proofs.Common.{◌≡◌, ◌∙◌, true, false, sym, ap, subst}
use Rattle.pads_lex.specs.declared.token.Keyword.TheVariants.{Parray, Pstruct, Punion}
use Rattle.pads_grammar.specs.declared.kind.Kind.TheVariants as kind
use Rattle.pads_grammar.specs.Grammar.{Outcome}
use Rattle.pads_grammar.specs.Kinds.{is, peek}
use Rattle.pads_grammar.specs.Reads.{Reads}
use Rattle.pads_ast.specs.declared.decl.DeclBody.{DeclBody}
use Rattle.pads_syntax.proofs.BodyLaws.{body_struct, body_union, body_array, body_other}
use Rattle.pads_syntax.proofs.declaration.decl_body.Goals as goal

pub returns-then-is_keyword : goal.returns-then-is_keyword
returns-then-is_keyword c =
    let a : is (kind.Keyword Pstruct) (peek c.args.cursor.now) ≡ true = ap (is (kind.Keyword Pstruct)) (sym c.peek-next.ensures.kind) ∙ (sym c.is_keyword.ensures.same ∙ c.if-is_keyword.true) in
    record { reads = subst (λ (r : Outcome DeclBody). Reads r c.struct_body.result c.struct_body.new.cursor) (sym (body_struct c.args.cursor.now a)) c.struct_body.ensures.reads }

pub returns-then-is_keyword-2 : goal.returns-then-is_keyword-2
returns-then-is_keyword-2 c =
    let a : is (kind.Keyword Pstruct) (peek c.args.cursor.now) ≡ false = ap (is (kind.Keyword Pstruct)) (sym c.peek-next.ensures.kind) ∙ (sym c.is_keyword.ensures.same ∙ c.if-is_keyword.false) in
    let b : is (kind.Keyword Punion) (peek c.args.cursor.now) ≡ true = ap (is (kind.Keyword Punion)) (sym c.peek-next.ensures.kind) ∙ (sym c.is_keyword-else-is_keyword.ensures.same ∙ c.if-is_keyword-2.true) in
    record { reads = subst (λ (r : Outcome DeclBody). Reads r c.union_body.result c.union_body.new.cursor) (sym (body_union c.args.cursor.now a b)) c.union_body.ensures.reads }

pub returns-then-is_keyword-3 : goal.returns-then-is_keyword-3
returns-then-is_keyword-3 c =
    let a : is (kind.Keyword Pstruct) (peek c.args.cursor.now) ≡ false = ap (is (kind.Keyword Pstruct)) (sym c.peek-next.ensures.kind) ∙ (sym c.is_keyword.ensures.same ∙ c.if-is_keyword.false) in
    let b : is (kind.Keyword Punion) (peek c.args.cursor.now) ≡ false = ap (is (kind.Keyword Punion)) (sym c.peek-next.ensures.kind) ∙ (sym c.is_keyword-else-is_keyword.ensures.same ∙ c.if-is_keyword-2.false) in
    let d : is (kind.Keyword Parray) (peek c.args.cursor.now) ≡ true = ap (is (kind.Keyword Parray)) (sym c.peek-next.ensures.kind) ∙ (sym c.is_keyword-else-is_keyword-2.ensures.same ∙ c.if-is_keyword-3.true) in
    record { reads = subst (λ (r : Outcome DeclBody). Reads r c.array_body.result c.array_body.new.cursor) (sym (body_array c.args.cursor.now a b d)) c.array_body.ensures.reads }

pub returns-else-is_keyword-3 : goal.returns-else-is_keyword-3
returns-else-is_keyword-3 c =
    let a : is (kind.Keyword Pstruct) (peek c.args.cursor.now) ≡ false = ap (is (kind.Keyword Pstruct)) (sym c.peek-next.ensures.kind) ∙ (sym c.is_keyword.ensures.same ∙ c.if-is_keyword.false) in
    let b : is (kind.Keyword Punion) (peek c.args.cursor.now) ≡ false = ap (is (kind.Keyword Punion)) (sym c.peek-next.ensures.kind) ∙ (sym c.is_keyword-else-is_keyword.ensures.same ∙ c.if-is_keyword-2.false) in
    let d : is (kind.Keyword Parray) (peek c.args.cursor.now) ≡ false = ap (is (kind.Keyword Parray)) (sym c.peek-next.ensures.kind) ∙ (sym c.is_keyword-else-is_keyword-2.ensures.same ∙ c.if-is_keyword-3.false) in
    record { reads = subst (λ (r : Outcome DeclBody). Reads r c.other_body.result c.other_body.new.cursor) (sym (body_other c.args.cursor.now a b d)) c.other_body.ensures.reads }
