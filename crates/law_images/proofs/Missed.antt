-- A call whose declaration's code begins with a literal: where that is missing it runs to a reading that isn't clean.
use Rattle.std.proofs.Common.{◌≡◌, ◌∙◌, sym, ap, refl, ℕ, ◌+◌, Bool, true, false, List, [], ◌∷◌, ◌++◌, append_assoc, drop, Option, Some, None, slice_get}
use Rattle.pads_expr.specs.declared.expr.Expr.{Expr}
use Rattle.pads_calc.specs.declared.decl.Decl.{Decl}
use Rattle.pads_calc.specs.declared.reading.Reading.{Reading}
use Rattle.pads_calc.specs.Leaves.{lit_of}
use Rattle.pads_calc.specs.Readings.{Subject, is_ok}
use Rattle.pads_image.specs.declared.entry.Entry.{Entry}
use Rattle.pads_image.specs.declared.op.Op.{Op}
use Rattle.pads_image.specs.declared.op.Op.TheVariants as op
use Rattle.pads_image.specs.Answers.{Reaches}
use Rattle.pads_image.specs.Beginnings.{begins_with}
use Rattle.pads_image.specs.Blocks.{layout}
use Rattle.pads_image.specs.Code.{code_of, entries_of}
use Rattle.pads_image.specs.States.{State, seen}
use Rattle.law_images.proofs.Begun.{call-begun}
use Rattle.law_images.proofs.Called.{Calls, called, largest, runs}
use Rattle.law_images.proofs.Declared.{declared, entry_for, stands, undeclared}
use Rattle.law_images.proofs.Halting.{deeper_at}

unclean : (ok clean : Bool) → (ok ≡ true → clean ≡ true) → clean ≡ false → ok ≡ false
unclean true clean h bad = let never = sym bad ∙ h refl in absurd cc
unclean false clean h bad = refl

module _ (decls : List Decl) (subject : Subject) (number : ℕ) (args : List Expr) where
  -- it runs to a reading that isn't clean, over stacks of some size
  pub record Misses (s : State) : Type 0 where
    pub reading : Reading
    pub bad : is_ok reading ≡ false
    pub most : ℕ
    pub run : Reaches (code_of decls) (entries_of decls) subject most s (record s { at_ = s.at_ + 1; last = reading })

  module _ (s : State) (entry : Entry) (entry_is : slice_get (entries_of decls) number ≡ Some entry) (h : Calls decls subject number args s) where
    abbrev reads : Reading
    reads = called decls subject number args s

    -- with its declaration
    of-decl : (decl : Decl) → slice_get decls number ≡ Some decl → (literal : List ℕ) → begins_with (drop entry.first (code_of decls)) ≡ Some literal
        → is_ok reads ≡ true → is_ok (lit_of subject literal s.last.place) ≡ true
    of-decl decl there literal begins =
        let d = declared (deeper_at decls subject 0 0) 0 decls 0 number decl there in
        let at_ = stands (deeper_at decls subject 0 0) 0 decls number decl d in
        let body = (layout decl.body).code d.first in
        let both : Some entry ≡ Some (entry_for decl d.first) = sym entry_is ∙ d.entry in
        let same : entry ≡ entry_for decl d.first = cc in
        let code : drop entry.first (code_of decls) ≡ body ++ op.Return ∷ at_.rest =
        ap (λ (entry : Entry). drop entry.first (code_of decls)) same ∙ at_.is ∙ append_assoc body (op.Return ∷ []) at_.rest in
        call-begun decls subject number args (seen s) s.last.place decl there d.first (op.Return ∷ at_.rest) literal
        (ap (λ (code : List Op). begins_with code) (sym code) ∙ begins) s.depth

    by-decl : (decl : Option Decl) → slice_get decls number ≡ decl → (literal : List ℕ) → begins_with (drop entry.first (code_of decls)) ≡ Some literal
        → is_ok reads ≡ true → is_ok (lit_of subject literal s.last.place) ≡ true
    by-decl None there literal begins ok = let never : Some entry ≡ None = sym entry_is ∙ undeclared decls 0 number there in absurd cc
    by-decl (Some decl) there literal begins ok = of-decl decl there literal begins ok

    pub misses : (literal : List ℕ) → begins_with (drop entry.first (code_of decls)) ≡ Some literal → is_ok (lit_of subject literal s.last.place) ≡ false → Misses s
    misses literal begins bad = record {
      reading = reads;
      bad = unclean (is_ok reads) (is_ok (lit_of subject literal s.last.place)) (by-decl (slice_get decls number) refl literal begins) bad;
      most = largest decls subject number args s;
      run = runs decls subject number args s h;
    }
