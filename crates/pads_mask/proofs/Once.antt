-- To take the constraints away once more changes nothing.
use Rattle.std.proofs.Common.{◌≡◌, ◌∙◌, sym, ap, refl, ℕ, zero, suc, List, [], ◌∷◌, map, Option, None, Some, slice_get}
use Rattle.pads_calc.specs.declared.term.Arm.{Arm}
use Rattle.pads_calc.specs.declared.term.Case.{Case}
use Rattle.pads_calc.specs.declared.term.Part.{Part}
use Rattle.pads_calc.specs.declared.term.Seq.{Seq}
use Rattle.pads_calc.specs.declared.term.Term.{Term}
use Rattle.pads_calc.specs.declared.term.Term.TheVariants as term
use Rattle.pads_calc.proofs.Induction.{EachArm, EachCase, EachForm, EachPart, InSeq, WhereThere, each-term}
use Rattle.pads_mask.specs.Unguarded.{unguarded, unguarded_arm, unguarded_case, unguarded_option, unguarded_part, unguarded_seq}
use Rattle.pads_mask.proofs.Rolls.{unguarded-Unit, unguarded-Base, unguarded-Lit, unguarded-Eor, unguarded-Struct, unguarded-Alt, unguarded-Switch, unguarded-Guard, unguarded-Seq, unguarded-Call, unguarded-Compute, unguarded-Absorb, unguarded-Scan}

abbrev Once : Term → Type 0
Once t = unguarded (unguarded t) ≡ unguarded t

-- of what a form becomes
as-made : (t made : Term) → unguarded t ≡ made → unguarded made ≡ made → Once t
as-made t made is once = ap unguarded is ∙ once ∙ sym is

abbrev with_part : Part → Term → Part
with_part part t = record { name = part.name; term = t }

abbrev with_arm : Arm → Term → Arm
with_arm arm t = record { name = arm.name; term = t }

abbrev with_case : Case → Term → Case
with_case case t = record { key = case.key; arm = with_arm case.arm t }

once-parts : (parts : List Part) → EachPart Once parts → map unguarded_part (map unguarded_part parts) ≡ map unguarded_part parts
once-parts [] h = refl
once-parts (part ∷ parts) h =
    ap (λ t. with_part part t ∷ map unguarded_part (map unguarded_part parts)) (h zero part refl)
    ∙ ap (λ rest. unguarded_part part ∷ rest) (once-parts parts (λ n. h (suc n)))

once-arms : (arms : List Arm) → EachArm Once arms → map unguarded_arm (map unguarded_arm arms) ≡ map unguarded_arm arms
once-arms [] h = refl
once-arms (arm ∷ arms) h =
    ap (λ t. with_arm arm t ∷ map unguarded_arm (map unguarded_arm arms)) (h zero arm refl)
    ∙ ap (λ rest. unguarded_arm arm ∷ rest) (once-arms arms (λ n. h (suc n)))

once-cases : (cases : List Case) → EachCase Once cases → map unguarded_case (map unguarded_case cases) ≡ map unguarded_case cases
once-cases [] h = refl
once-cases (case ∷ cases) h =
    ap (λ t. with_case case t ∷ map unguarded_case (map unguarded_case cases)) (h zero case refl)
    ∙ ap (λ rest. unguarded_case case ∷ rest) (once-cases cases (λ n. h (suc n)))

once-option : (o : Option Term) → WhereThere Once o → unguarded_option (unguarded_option o) ≡ unguarded_option o
once-option None h = refl
once-option (Some t) h = ap (λ t. Some t) (h t refl)

abbrev with_terms : Seq → Term → Option Term → Option Term → Seq
with_terms s elem sep stop = record { elem = elem; sep = sep; size = s.size; last = s.last; stop = stop; elts = s.elts }

once-seq : (s : Seq) → InSeq Once s → unguarded_seq (unguarded_seq s) ≡ unguarded_seq s
once-seq s h =
    ap (λ elem. with_terms s elem (unguarded_option (unguarded_option s.sep)) (unguarded_option (unguarded_option s.stop))) h.elem
    ∙ ap (λ sep. with_terms s (unguarded s.elem) sep (unguarded_option (unguarded_option s.stop))) (once-option s.sep h.sep)
    ∙ ap (λ stop. with_terms s (unguarded s.elem) (unguarded_option s.sep) stop) (once-option s.stop h.stop)

once-forms : EachForm Once
once-forms = record {
  of_unit = as-made _ _ unguarded-Unit unguarded-Unit;
  of_base = λ base args. as-made _ _ (unguarded-Base base args) (unguarded-Base base args);
  of_lit = λ literal. as-made _ _ (unguarded-Lit literal) (unguarded-Lit literal);
  of_eor = as-made _ _ unguarded-Eor unguarded-Eor;
  of_struct = λ parts h. as-made _ _ (unguarded-Struct parts) (unguarded-Struct (map unguarded_part parts) ∙ ap (λ parts. term.Struct parts) (once-parts parts h));
  of_alt = λ arms h. as-made _ _ (unguarded-Alt arms) (unguarded-Alt (map unguarded_arm arms) ∙ ap (λ arms. term.Alt arms) (once-arms arms h));
  of_switch = λ e cases h. as-made _ _ (unguarded-Switch e cases) (unguarded-Switch e (map unguarded_case cases) ∙ ap (λ cases. term.Switch e cases) (once-cases cases h));
  of_guard = λ inner binder condition h. as-made _ _ (unguarded-Guard inner binder condition) h;
  of_seq = λ s h. as-made _ _ (unguarded-Seq s) (unguarded-Seq (unguarded_seq s) ∙ ap (λ s. term.Seq s) (once-seq s h));
  of_call = λ number args. as-made _ _ (unguarded-Call number args) (unguarded-Call number args);
  of_compute = λ e form. as-made _ _ (unguarded-Compute e form) (unguarded-Compute e form);
  of_absorb = λ inner h. as-made _ _ (unguarded-Absorb inner) (unguarded-Absorb (unguarded inner) ∙ ap (λ inner. term.Absorb inner) h);
  of_scan = λ inner h. as-made _ _ (unguarded-Scan inner) (unguarded-Scan (unguarded inner) ∙ ap (λ inner. term.Scan inner) h);
}

pub once : (t : Term) → unguarded (unguarded t) ≡ unguarded t
once t = each-term Once once-forms t
