-- The code of each term leaves the height as it was.
use Rattle.std.proofs.Common.{◌≡◌, sym, refl, subst, ℕ, suc, List, [], ◌∷◌, map, Option, None, Some, option_map}
use Rattle.pads_calc.specs.declared.term.Arm.{Arm}
use Rattle.pads_calc.specs.declared.term.Case.{Case}
use Rattle.pads_calc.specs.declared.term.Seq.{Seq}
use Rattle.pads_calc.specs.declared.term.Term.{Term}
use Rattle.pads_calc.proofs.Induction.{EachArm, EachCase, EachForm, InSeq, WhereThere, each-term}
use Rattle.pads_image.specs.declared.op.Op.TheVariants as op
use Rattle.pads_image.specs.Blocks.{Block, blocks, layout, case_layout, seq_layout}
use Rattle.pads_image.specs.Heights.{Deeper}
use Rattle.pads_image.proofs.Layouts.{layout-Unit, layout-Base, layout-Lit, layout-Eor, layout-Struct, layout-Alt, layout-Switch, layout-Guard, layout-Seq, layout-Call, layout-Compute, layout-Absorb, layout-Scan}
use Rattle.law_images.proofs.Levels.{Levelled, AllLevelled, OptionLevelled, one-level, followed-level, struct-level, alt-level, switch-level, scan-level, seq-height, seq-none}

module _ (deeper : Deeper) (most : ℕ) where
  abbrev LevelledTerm : Term → Type 0
  LevelledTerm t = Levelled deeper most (layout t)

  by-layout : (t : Term) (b : Block) → layout t ≡ b → Levelled deeper most b → LevelledTerm t
  by-layout t b is h = subst (λ b. Levelled deeper most b) (sym is) h

  pub arms-levelled : (arms : List Arm) → EachArm LevelledTerm arms → AllLevelled deeper most (map (λ arm. layout arm.term) arms)
  arms-levelled [] h = tt
  arms-levelled (arm ∷ arms) h = (h 0 arm refl, arms-levelled arms (λ n arm there. h (suc n) arm there))

  cases-levelled : (cases : List Case) → EachCase LevelledTerm cases → AllLevelled deeper most (blocks (map case_layout cases))
  cases-levelled [] h = tt
  cases-levelled (case ∷ cases) h = (h 0 case refl, cases-levelled cases (λ n case there. h (suc n) case there))

  pub option-levelled : (o : Option Term) → WhereThere LevelledTerm o → OptionLevelled deeper most (option_map layout o)
  option-levelled None h = tt
  option-levelled (Some t) h = h t refl

  seq-level : (s : Seq) → InSeq LevelledTerm s → Levelled deeper most (seq_layout s)
  seq-level s h =
      let of_stop = option-levelled s.stop h.stop in
      let of_sep = option-levelled s.sep h.sep in
      record {
        level = λ p height. seq-height deeper most (option_map layout s.stop) (option_map layout s.sep) (layout s.elem) of_stop of_sep h.elem s.size s.last s.elts p height;
        none = λ p. seq-none deeper most (option_map layout s.stop) (option_map layout s.sep) (layout s.elem) of_stop of_sep h.elem s.size s.last s.elts p;
      }

  level-forms : EachForm LevelledTerm
  level-forms = record {
    of_unit = by-layout _ _ layout-Unit (one-level deeper most op.Unit (λ h. refl) refl);
    of_base = λ base args. by-layout _ _ (layout-Base base args) (one-level deeper most (op.Base base args) (λ h. refl) refl);
    of_lit = λ literal. by-layout _ _ (layout-Lit literal) (one-level deeper most (op.Lit literal) (λ h. refl) refl);
    of_eor = by-layout _ _ layout-Eor (one-level deeper most op.Eor (λ h. refl) refl);
    of_struct = λ parts h. by-layout _ _ (layout-Struct parts) (struct-level deeper most parts h);
    of_alt = λ arms h. by-layout _ _ (layout-Alt arms) (alt-level deeper most (map (λ arm. layout arm.term) arms) (arms-levelled arms h));
    of_switch = λ e cases h. by-layout _ _ (layout-Switch e cases) (switch-level deeper most e (map case_layout cases) (cases-levelled cases h));
    of_guard = λ inner binder condition h. by-layout _ _ (layout-Guard inner binder condition)
        (followed-level deeper most (layout inner) (op.Guard binder condition) h (λ h. refl) refl);
    of_seq = λ s h. by-layout _ _ (layout-Seq s) (seq-level s h);
    of_call = λ number args. by-layout _ _ (layout-Call number args) (one-level deeper most (op.Call number args) (λ h. refl) refl);
    of_compute = λ e form. by-layout _ _ (layout-Compute e form) (one-level deeper most (op.Compute e form) (λ h. refl) refl);
    of_absorb = λ inner h. by-layout _ _ (layout-Absorb inner) (followed-level deeper most (layout inner) op.Absorb h (λ h. refl) refl);
    of_scan = λ inner h. by-layout _ _ (layout-Scan inner) (scan-level deeper most (layout inner) h);
  }

  pub levelled : (t : Term) → Levelled deeper most (layout t)
  levelled = each-term LevelledTerm level-forms
