use Rattle.std.proofs.Common.{◌∙◌, sym, ap}
use Rattle.std.proofs.lemmas.Result.{err_from_is_err_and}
use Rattle.pads_grammar.specs.Grammar.{begins}
use Rattle.pads_syntax.specs.Declarations.{decl}
use Rattle.pads_syntax.proofs.DeclLoops.{decls_go, decls_refuse, decls_shorten}
use Rattle.pads_syntax.proofs.declaration.decls.Goals as goal

pub decls-smaller : goal.decls-smaller
decls-smaller c = decls_shorten c.decls.cursor c.decl.new.cursor c.in_ok-decl.field-0 c.in_ok-decl.ensures.reads

pub decls-preserved : goal.decls-preserved
decls-preserved c = rw c.in_ok-push.ensures.ok (decls_go _ c.decls.decls c.decls.cursor c.decl.new.cursor c.in_ok-decl.field-0
    (ap (begins decl) (sym c.peek.ensures.kind) ∙ (sym c.begins_decl.ensures.begins ∙ c.decls-test.true)) c.in_ok-decl.ensures.reads c.decls.invariant)

pub returns-in_err-decl : goal.returns-in_err-decl
returns-in_err-decl c =
    let p = err_from_is_err_and c.from_residual.result c.from_residual.ensures.1 in
    record {
      reads = rw (p.1, p.2) (decls_refuse _ c.decls.decls c.decls.cursor c.decl.new.cursor c.in_err-decl.field-0.0
          (ap (begins decl) (sym c.peek.ensures.kind) ∙ (sym c.begins_decl.ensures.begins ∙ c.decls-test.true)) c.in_err-decl.ensures.reads c.decls.invariant);
    }
