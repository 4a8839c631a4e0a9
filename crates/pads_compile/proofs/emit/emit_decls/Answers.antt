use Rattle.std.proofs.Common.{◌≡◌, ◌∙◌, sym, ap, arith, ◌++◌, ◌∷◌, [], ◌≤◌, ◌+◌, List, drop, length}
use Rattle.pads_calc.specs.Skeletons.{skeleton_of}
use Rattle.pads_image.specs.declared.entry.Entry.{Entry}
use Rattle.pads_image.specs.declared.op.Op.TheVariants as op
use Rattle.pads_image.specs.Blocks.{layout}
use Rattle.pads_image.specs.Code.{code_of, entries_of, entries_from}
use Rattle.pads_compile.proofs.Appended.{regrouped, decl-next, entry-next, length-next, decls-done, entries-done}
use Rattle.pads_compile.proofs.emit.emit_decls.Goals as goal

pub loop-decl-preserved : goal.loop-decl-preserved
loop-decl-preserved c =
    let decls = c.args.decls.now in
    let decl = c.decl-item.result in
    let code = c.loop-decl.ops in
    let after = c.emit_decl.new.code in
    let i = c.loop-decl.decl-index in
    let grown : after ≡ (code ++ (layout decl.body).code (length code)) ++ op.Return ∷ [] =
    c.in_ok-emit_decl.ensures.code ∙ regrouped code ((layout decl.body).code (length code)) op.Return in
    let told = c.in_ok-entry_of.ensures.entry in
    let entry = c.in_ok-entry_of.field-0 in
    let first : entry.first ≡ length code = omega (arith, ap (λ (e : Entry). e.first) told, c.loop-decl.invariant.2, c.requires.short) in
    let made : entry ≡ (record { first = length code; params = decl.params; set = decl.set; skeleton = skeleton_of decl.body }) =
    told ∙ ap (λ n. record { first = n; params = decl.params; set = decl.set; skeleton = skeleton_of decl.body }) (sym (ap (λ (e : Entry). e.first) told) ∙ first) in (
      decl-next decls (code_of decls) code after i decl c.loop-decl-test.true c.decl-item.is c.loop-decl.invariant.0 grown,
      entry-next decls (entries_of decls) c.loop-decl.entries code after entry i decl c.loop-decl-test.true c.decl-item.is c.loop-decl.invariant.1 grown made
          ∙ ap (λ (entries : List Entry). entries ++ entries_from (drop (i + 1) decls) (length after)) (sym c.in_ok-push.ensures.ok),
      length-next decls code after i decl c.loop-decl-test.true c.decl-item.is c.loop-decl.invariant.2 grown,
    )

pub returns : goal.returns
returns c =
    let decls = c.args.decls.now in
    let i = c.loop-decl.decl-index in
    let over : length decls ≤ i = omega arith in
    record {
      code = record {
        code_is = decls-done decls (code_of decls) c.loop-decl.ops i over c.loop-decl.invariant.0;
        entries_are = entries-done decls (entries_of decls) c.loop-decl.entries (length c.loop-decl.ops) i over c.loop-decl.invariant.1;
      };
    }
