-- What is passed through to a value's form, layer by layer.
use Rattle.std.proofs.Common.{◌≡◌, ◌∙◌, sym, ap, refl, Bool, true, false, Option, Some, None, unwrap_or, option_map, if◌then◌else◌, true≢false}
use Rattle.std.specs.Prelude.{⊤}
use Rattle.pads_calc.specs.declared.term.Arm.{Arm}
use Rattle.pads_calc.specs.declared.term.Case.{Case}
use Rattle.pads_calc.specs.declared.term.Part.{Part}
use Rattle.pads_calc.specs.declared.term.Seq.{Seq}
use Rattle.pads_calc.specs.declared.term.Term.{Term, Term-F, out-Term, roll-Term, roll-out-Term, para-Term, para-roll-Term}
use Rattle.pads_forms.specs.Forms.{inside, no_arm, no_case, no_part, no_seq, through}

-- the term directly inside one that is passed through
abbrev pub next : Bool → Term-F Term Arm Case Part Seq → Option Term
next absorbs Term-F.Unit = None
next absorbs (Term-F.Base base args) = None
next absorbs (Term-F.Lit literal) = None
next absorbs Term-F.Eor = None
next absorbs (Term-F.Struct parts) = None
next absorbs (Term-F.Alt arms) = None
next absorbs (Term-F.Switch e cases) = None
next absorbs (Term-F.Guard inner binder condition) = Some inner
next absorbs (Term-F.Seq s) = None
next absorbs (Term-F.Call number args) = None
next absorbs (Term-F.Compute e form) = None
next absorbs (Term-F.Absorb inner) = if absorbs then Some inner else None
next absorbs (Term-F.Scan inner) = Some inner

abbrev passed : Bool → Term → Option Term
passed absorbs = para-Term (Option Term) ⊤ ⊤ ⊤ ⊤ (inside absorbs) no_arm no_case no_part no_seq

passed_roll : (absorbs : Bool) (x : Term-F Term Arm Case Part Seq) → passed absorbs (roll-Term x) ≡ option_map (through absorbs) (next absorbs x)
unfolding through
passed_roll absorbs Term-F.Unit = para-roll-Term (Option Term) ⊤ ⊤ ⊤ ⊤ (inside absorbs) no_arm no_case no_part no_seq Term-F.Unit
passed_roll absorbs (Term-F.Base base args) = para-roll-Term (Option Term) ⊤ ⊤ ⊤ ⊤ (inside absorbs) no_arm no_case no_part no_seq (Term-F.Base base args)
passed_roll absorbs (Term-F.Lit literal) = para-roll-Term (Option Term) ⊤ ⊤ ⊤ ⊤ (inside absorbs) no_arm no_case no_part no_seq (Term-F.Lit literal)
passed_roll absorbs Term-F.Eor = para-roll-Term (Option Term) ⊤ ⊤ ⊤ ⊤ (inside absorbs) no_arm no_case no_part no_seq Term-F.Eor
passed_roll absorbs (Term-F.Struct parts) = para-roll-Term (Option Term) ⊤ ⊤ ⊤ ⊤ (inside absorbs) no_arm no_case no_part no_seq (Term-F.Struct parts)
passed_roll absorbs (Term-F.Alt arms) = para-roll-Term (Option Term) ⊤ ⊤ ⊤ ⊤ (inside absorbs) no_arm no_case no_part no_seq (Term-F.Alt arms)
passed_roll absorbs (Term-F.Switch e cases) = para-roll-Term (Option Term) ⊤ ⊤ ⊤ ⊤ (inside absorbs) no_arm no_case no_part no_seq (Term-F.Switch e cases)
passed_roll absorbs (Term-F.Guard inner binder condition) = para-roll-Term (Option Term) ⊤ ⊤ ⊤ ⊤ (inside absorbs) no_arm no_case no_part no_seq (Term-F.Guard inner binder condition)
passed_roll absorbs (Term-F.Seq s) = para-roll-Term (Option Term) ⊤ ⊤ ⊤ ⊤ (inside absorbs) no_arm no_case no_part no_seq (Term-F.Seq s)
passed_roll absorbs (Term-F.Call number args) = para-roll-Term (Option Term) ⊤ ⊤ ⊤ ⊤ (inside absorbs) no_arm no_case no_part no_seq (Term-F.Call number args)
passed_roll absorbs (Term-F.Compute e form) = para-roll-Term (Option Term) ⊤ ⊤ ⊤ ⊤ (inside absorbs) no_arm no_case no_part no_seq (Term-F.Compute e form)
passed_roll true (Term-F.Absorb inner) = para-roll-Term (Option Term) ⊤ ⊤ ⊤ ⊤ (inside true) no_arm no_case no_part no_seq (Term-F.Absorb inner)
passed_roll false (Term-F.Absorb inner) = para-roll-Term (Option Term) ⊤ ⊤ ⊤ ⊤ (inside false) no_arm no_case no_part no_seq (Term-F.Absorb inner)
passed_roll absorbs (Term-F.Scan inner) = para-roll-Term (Option Term) ⊤ ⊤ ⊤ ⊤ (inside absorbs) no_arm no_case no_part no_seq (Term-F.Scan inner)

-- a term that is passed through leads where the term inside leads, and any other term stays
pub through_next : (absorbs : Bool) (t : Term) → through absorbs t ≡ unwrap_or (option_map (through absorbs) (next absorbs (out-Term t))) t
unfolding through
through_next absorbs t = ap (λ found. unwrap_or found t) (ap (passed absorbs) (sym (roll-out-Term t)) ∙ passed_roll absorbs (out-Term t))

-- the way to the term inside keeps the end of the way
pub through_inside : (absorbs : Bool) (t inner : Term) → next absorbs (out-Term t) ≡ Some inner → through absorbs t ≡ through absorbs inner
through_inside absorbs t inner is = through_next absorbs t ∙ ap (λ found. unwrap_or (option_map (through absorbs) found) t) is

pub next_absorb : (absorbs : Bool) (inner : Term) → absorbs ≡ true → next absorbs (Term-F.Absorb inner) ≡ Some inner
next_absorb true inner all = refl
next_absorb false inner all = absurd (true≢false (sym all))
