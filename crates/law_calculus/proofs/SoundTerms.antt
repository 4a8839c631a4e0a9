-- Each term reads soundly, and so does each call, at each depth.
use Rattle.std.proofs.Common.{refl, ℕ, List, Option, None, Some}
use Rattle.pads_value.specs.declared.cause.Cause.TheVariants as cause
use Rattle.pads_expr.specs.declared.expr.Expr.{Expr}
use Rattle.pads_expr.specs.Value.{Pairs, value}
use Rattle.pads_expr.specs.Worth.{worth_or_none}
use Rattle.pads_calc.specs.declared.decl.Decl.{Decl}
use Rattle.pads_calc.specs.declared.reading.Reading.{Reading}
use Rattle.pads_calc.specs.declared.term.Term.{Term}
use Rattle.pads_calc.specs.Arguments.{arguments}
use Rattle.pads_calc.specs.Calculus.{Caller, caller, meaning, read, option_reader, seq_reader}
use Rattle.pads_calc.specs.Readings.{Subject}
use Rattle.pads_calc.proofs.Induction.{WhereThere, EachReading, each-call, each-reading}
use Rattle.law_calculus.proofs.SoundReadings.{Sound, SoundReader, sound-fails}
use Rattle.law_calculus.proofs.SoundForms.{sound-unit, sound-lit, sound-eor, sound-base, sound-compute, sound-struct, sound-alt, sound-switch, sound-guard, sound-absorb, sound-scan}
use Rattle.law_calculus.proofs.SoundArrays.{SoundOption, sound-seq}

module _ (subject : Subject) where
  sound-option : (call : Caller) (o : Option Term) → WhereThere (λ t. SoundReader subject (read subject call t)) o → SoundOption subject (option_reader subject call o)
  sound-option call None h = tt
  sound-option call (Some t) h = h t refl

  module _ (decls : List Decl) where
    abbrev IsSound : ℕ → Term → Pairs → ℕ → Reading → Type 0
    IsSound depth t env i r = Sound subject i r

    sound-forms : EachReading IsSound subject decls
    sound-forms = record {
      of_unit = λ depth env i. sound-unit subject i;
      of_base = λ depth base args env i. sound-base subject base (arguments args env) i;
      of_lit = λ depth literal env i. sound-lit subject literal i;
      of_eor = λ depth env i. sound-eor subject i;
      of_struct = λ depth parts h env i. sound-struct subject (caller subject decls depth) parts h env i;
      of_alt = λ depth arms h env i. sound-alt subject (caller subject decls depth) arms h 0 env i;
      of_switch = λ depth e cases h env i. sound-switch subject (caller subject decls depth) _ cases h env i;
      of_guard = λ depth inner binder condition h env i. sound-guard subject binder condition env i _ (h env i);
      of_seq = λ depth s h env i. (let call = caller subject decls depth in sound-seq subject (seq_reader subject call s) h.elem (sound-option call s.sep h.sep) env i);
      of_compute = λ depth e form env i. sound-compute subject form (worth_or_none (value e env)) i;
      of_absorb = λ depth inner h env i. sound-absorb subject i _ (h env i);
      of_scan = λ depth inner h env i. sound-scan subject _ h env i;
      too_deep = λ number args env i. sound-fails subject cause.Depth i;
      unargued = λ depth number args env i none. sound-fails subject cause.BadParam i;
      undeclared = λ depth number args env i none. sound-fails subject cause.BadParam i;
      of_body = λ depth number args found decl env i given there h. h;
    }

    pub sound-caller : (depth number : ℕ) (args : List Expr) → SoundReader subject (caller subject decls depth number args)
    sound-caller depth number args env i = each-call IsSound subject decls sound-forms depth number args env i

    pub sound-meaning : (depth : ℕ) (t : Term) → SoundReader subject (meaning subject decls depth t)
    sound-meaning depth t env i = each-reading IsSound subject decls sound-forms depth t env i
