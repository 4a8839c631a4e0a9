-- The code of each term runs as the calculus reads the term, where calls run as they read.
use Rattle.std.proofs.Common.{◌≡◌, refl, arith, ℕ, List}
use Rattle.pads_expr.specs.declared.expr.Expr.{Expr}
use Rattle.pads_expr.specs.Value.{Pairs, value}
use Rattle.pads_expr.specs.Worth.{worth_or_none}
use Rattle.pads_calc.specs.declared.term.Term.{Term}
use Rattle.pads_calc.specs.Arguments.{arguments}
use Rattle.pads_calc.specs.Calculus.{Caller, read}
use Rattle.pads_calc.specs.Leaves.{unit_of, lit_of, eor_of, base_of, compute_of}
use Rattle.pads_calc.specs.Readings.{Subject, Reader}
use Rattle.pads_calc.specs.Wrappers.{guard_of, absorb_of}
use Rattle.pads_calc.proofs.Induction.{EachForm, each-term}
use Rattle.pads_calc.proofs.Rolls.{read-Unit, read-Base, read-Lit, read-Eor, read-Struct, read-Alt, read-Switch, read-Guard, read-Seq, read-Call, read-Compute, read-Absorb, read-Scan}
use Rattle.pads_image.specs.declared.entry.Entry.{Entry}
use Rattle.pads_image.specs.declared.op.Op.{Op}
use Rattle.pads_image.specs.declared.op.Op.TheVariants as op
use Rattle.pads_image.specs.Blocks.{Block, single, layout}
use Rattle.pads_image.specs.Heights.{Deeper}
use Rattle.pads_image.proofs.Layouts.{layout-Unit, layout-Base, layout-Lit, layout-Eor, layout-Struct, layout-Alt, layout-Switch, layout-Guard, layout-Seq, layout-Call, layout-Compute, layout-Absorb, layout-Scan}
use Rattle.pads_image.proofs.Lengths.{sized}
use Rattle.law_images.proofs.LevelledTerms.{levelled}
use Rattle.law_calculus.proofs.SoundReadings.{SoundReader}
use Rattle.law_images.proofs.Running.{RunsAs, by-layout, one-runs, followed-runs}
use Rattle.law_images.proofs.StructsRun.{struct-runs}
use Rattle.law_images.proofs.ScansRun.{scan-runs}
use Rattle.law_images.proofs.SwitchesRun.{switch-runs}
use Rattle.law_images.proofs.AltsRun.{alt-runs}
use Rattle.law_images.proofs.ArrayRuns.{seq-runs}

module _ (code : List Op) (of_entries : List Entry) (subject : Subject) (most : ℕ) (deeper : Deeper) (depth : ℕ) (call : Caller) where
  abbrev pub Runs : Term → Type 0
  Runs t = RunsAs code of_entries subject most deeper depth (layout t) (read subject call t)

  -- a call of a declaration runs as it reads
  abbrev pub CallRuns : Type 0
  CallRuns = (number : ℕ) (args : List Expr) → RunsAs code of_entries subject most deeper depth (single (op.Call number args)) (λ env i. call number args env i)

  as-laid : (t : Term) (b : Block) (reader : Reader) → layout t ≡ b → ((env : Pairs) (i : ℕ) → read subject call t env i ≡ reader env i)
      → RunsAs code of_entries subject most deeper depth b reader → Runs t
  as-laid t b reader laid reads h = by-layout code of_entries subject most deeper depth (layout t) b (read subject call t) reader laid reads h

  module _ (sound : (t : Term) → SoundReader subject (read subject call t)) (calls : CallRuns) where
    run-forms : EachForm Runs
    run-forms = record {
      of_unit = as-laid _ _ _ layout-Unit (read-Unit subject call)
          (one-runs code of_entries subject most deeper depth op.Unit (λ env i. unit_of subject.origin i) (λ h. omega arith) (λ s deep. refl));
      of_base = λ base args. as-laid _ _ _ (layout-Base base args) (read-Base subject call base args)
          (one-runs code of_entries subject most deeper depth (op.Base base args) (λ env i. base_of subject base (arguments args env) i) (λ h. omega arith) (λ s deep. refl));
      of_lit = λ literal. as-laid _ _ _ (layout-Lit literal) (read-Lit subject call literal)
          (one-runs code of_entries subject most deeper depth (op.Lit literal) (λ env i. lit_of subject literal i) (λ h. omega arith) (λ s deep. refl));
      of_eor = as-laid _ _ _ layout-Eor (read-Eor subject call)
          (one-runs code of_entries subject most deeper depth op.Eor (λ env i. eor_of subject i) (λ h. omega arith) (λ s deep. refl));
      of_struct = λ parts h. as-laid _ _ _ (layout-Struct parts) (read-Struct subject call parts)
          (struct-runs code of_entries subject most deeper depth call sound parts h);
      of_alt = λ arms h. as-laid _ _ _ (layout-Alt arms) (read-Alt subject call arms) (alt-runs code of_entries subject most deeper depth call arms h);
      of_switch = λ e cases h. as-laid _ _ _ (layout-Switch e cases) (read-Switch subject call e cases)
          (switch-runs code of_entries subject most deeper depth call sound e cases h);
      of_guard = λ inner binder condition h. as-laid _ _ _ (layout-Guard inner binder condition) (read-Guard subject call inner binder condition)
          (followed-runs code of_entries subject most deeper depth (layout inner) (op.Guard binder condition) (read subject call inner) (guard_of binder condition) (sized inner)
          (levelled deeper most inner).level (λ h. omega arith) (λ s. refl) h);
      of_seq = λ s h. as-laid _ _ _ (layout-Seq s) (read-Seq subject call s) (seq-runs code of_entries subject most deeper depth call sound s h);
      of_call = λ number args. as-laid _ _ _ (layout-Call number args) (read-Call subject call number args) (calls number args);
      of_compute = λ e form. as-laid _ _ _ (layout-Compute e form) (read-Compute subject call e form)
          (one-runs code of_entries subject most deeper depth (op.Compute e form) (λ env i. compute_of subject.origin form (worth_or_none (value e env)) i) (λ h. omega arith) (λ s deep. refl));
      of_absorb = λ inner h. as-laid _ _ _ (layout-Absorb inner) (read-Absorb subject call inner)
          (followed-runs code of_entries subject most deeper depth (layout inner) op.Absorb (read subject call inner) (λ env r. absorb_of r) (sized inner)
          (levelled deeper most inner).level (λ h. omega arith) (λ s. refl) h);
      of_scan = λ inner h. as-laid _ _ _ (layout-Scan inner) (read-Scan subject call inner) (scan-runs code of_entries subject most deeper depth call sound inner h);
    }

    pub runs : (t : Term) → Runs t
    runs = each-term Runs run-forms
