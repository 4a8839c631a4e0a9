-- What a clean reading gives has canonical bytes, no longer than what was read, that fit: one lemma for each
-- form, by the calculus's one induction. The three go together, and with the reading: canonical bytes alone
-- don't ask a constraint or a size, which the reading met.
use Rattle.std.proofs.Common.{◌≡◌, ◌∙◌, sym, ap, refl, subst, arith, ℕ, zero, suc, ◌+◌, ◌≤◌, Bool, true, false, List, [], ◌∷◌, ◌++◌, map, length, drop, length-append, Option, Some, None, option_map, slice_get}
use Rattle.std.proofs.lemmas.List.{length-drop}
use Rattle.std.proofs.lemmas.Bool.{both_ways}
use Rattle.pads_value.specs.declared.cause.Cause.{Cause}
use Rattle.pads_value.specs.declared.cause.Cause.TheVariants as cause
use Rattle.pads_value.specs.declared.value.Val.{Val}
use Rattle.pads_value.specs.declared.value.Val.TheVariants as val
use Rattle.pads_int.specs.Spellings.{widest}
use Rattle.pads_expr.specs.declared.expr.Expr.{Expr}
use Rattle.pads_expr.specs.Value.{Pairs, value}
use Rattle.pads_expr.specs.Worth.{worth_or_none}
use Rattle.pads_calc.specs.declared.decl.Decl.{Decl}
use Rattle.pads_calc.specs.declared.reading.Reading.{Reading}
use Rattle.pads_calc.specs.declared.term.Arm.{Arm}
use Rattle.pads_calc.specs.declared.term.Case.{Case}
use Rattle.pads_calc.specs.declared.term.Part.{Part}
use Rattle.pads_calc.specs.declared.term.Seq.{Seq}
use Rattle.pads_calc.specs.declared.term.Term.{Term, Term-F}
use Rattle.pads_calc.specs.declared.term.Term.TheVariants as term
use Rattle.pads_calc.specs.Arguments.{argument, arguments}
use Rattle.pads_calc.specs.Arrays.{seq_of, is_empty}
use Rattle.pads_calc.specs.Calculus.{Caller, caller, meaning, part_reader, option_reader, seq_reader}
use Rattle.pads_calc.specs.Choices.{branch_of, chosen}
use Rattle.pads_calc.specs.Readings.{Subject, leaf, fails, is_ok, values, end_of}
use Rattle.pads_calc.specs.Structs.{bind, in_turn}
use Rattle.pads_calc.specs.Wrappers.{absorb_of}
use Rattle.pads_calc.proofs.Choices.{slice_get-map}
use Rattle.pads_calc.proofs.CleanArrays.{CleanTurns, clean-seq}
use Rattle.pads_calc.proofs.CleanForms.{CleanParts, clean-lit, clean-eor, clean-base, clean-compute, clean-guard, clean-absorb, clean-scan, clean-struct, clean-alt, clean-switch}
use Rattle.pads_calc.proofs.CleanNodes.{fails-unclean}
use Rattle.pads_calc.proofs.Induction.{EachPart, WhereThere, InSeq, Reads, EachReading, each-call}
use Rattle.pads_calc.proofs.KeptTurns.{Begins}
use Rattle.law_calculus.specs.Plain.{Plain, IsPlain, IsSeparator}
use Rattle.law_calculus.specs.Terms.{if_there}
use Rattle.law_canonical.specs.Canonical.{CallSpeller, canon, call_spelled, spelled, of_base, of_unit, in_order, before, each_element}
use Rattle.law_canonical.specs.Fitting.{Fits, FitParts, FitElements, FitBetween}
use Rattle.law_canonical.specs.Fitting as fit
use Rattle.law_canonical.proofs.BaseBytes.{base-bytes}
use Rattle.law_canonical.proofs.CleanFits.{few, later-now}
use Rattle.law_canonical.proofs.PlainTerms.{plain-here, plain-inside, mark-unit, absorb-unit}
use Rattle.law_canonical.proofs.Rolls.{part_speller, arm_speller, case_speller, seq_speller, spelled-Unit, spelled-Base, spelled-Lit, spelled-Eor, spelled-Struct, spelled-Alt, spelled-Switch, spelled-Guard, spelled-Seq, spelled-Call, spelled-Compute, spelled-Absorb, spelled-Scan}
use Rattle.law_canonical.proofs.Spelled.{unit-bytes, both-bytes, branch-bytes, computed-bytes, tuple-bytes, array-bytes, call-bytes}

module _ (subject : Subject) (decls : List Decl) (modules : Plain decls) (bounded : length subject.bytes ≤ widest) where
  -- a reading's value has canonical bytes, at most as many as it took, that fit it
  pub record HasBytes (depth : ℕ) (t : Term) (env : Pairs) (i : ℕ) (r : Reading) : Type 0 where
    pub bytes : List ℕ
    pub is : canon decls depth t env r.value ≡ Some bytes
    pub short : i + length bytes ≤ r.place
    pub fits : Fits decls depth t env r.value bytes

  -- where the term is plain and the reading is clean
  abbrev pub IfPlain : ℕ → Term → Pairs → ℕ → Reading → Type 0
  IfPlain depth t env i r = IsPlain t → is_ok r ≡ true → HasBytes depth t env i r

  abbrev by : (depth : ℕ) (t : Term) (env : Pairs) (i : ℕ) (r s : Reading) → r ≡ s → HasBytes depth t env i s → HasBytes depth t env i r
  by depth t env i r s same h = subst (HasBytes depth t env i) (sym same) h

  never : (depth : ℕ) (t : Term) (env : Pairs) (i : ℕ) (cause : Cause) → IfPlain depth t env i (fails subject.origin cause i)
  never depth t env i cause is_plain ok = absurd (both_ways (is_ok (fails subject.origin cause i)) (fails-unclean subject.origin cause i) ok)

  module _ (depth : ℕ) where
    abbrev call : Caller
    call = caller subject decls depth

    abbrev speller : CallSpeller
    speller = call_spelled decls depth

    abbrev Has : Term → Type 0
    Has = Reads IfPlain subject decls depth

    -- leaves
    unit-has : (t : Term) (env : Pairs) (i : ℕ) → canon decls depth t env val.Unit ≡ Some [] → Fits decls depth t env val.Unit [] → HasBytes depth t env i (leaf subject.origin val.Unit i i)
    unit-has t env i is fits = record { bytes = []; is = is; short = omega arith; fits = fits }

    lit-has : (literal : List ℕ) (env : Pairs) (i : ℕ) → HasBytes depth (term.Lit literal) env i (leaf subject.origin val.Unit i (i + length literal))
    lit-has literal env i = record {
      bytes = literal;
      is = spelled-Lit speller literal env val.Unit ∙ unit-bytes (Some literal);
      short = omega arith;
      fits = fit.literal;
    }

    -- structs
    record PartsBytes (parts : List Part) (env : Pairs) (i : ℕ) (readings : List Reading) : Type 0 where
      bytes : List ℕ
      is : in_order (map (part_speller speller) parts) env (values readings) ≡ Some bytes
      short : i + length bytes ≤ end_of i readings
      fits : FitParts decls depth parts env (values readings) bytes

    parts-have : (parts : List Part) → EachPart Has parts → EachPart IsPlain parts → (env : Pairs) (i : ℕ) → CleanParts subject call parts env i
        → PartsBytes parts env i (in_turn (map (part_reader subject call) parts) env i)
    parts-have [] h is_plain env i clean = record { bytes = []; is = refl; short = omega arith; fits = fit.no_part }
    parts-have (part ∷ parts) h is_plain env i clean =
        let r = meaning subject decls depth part.term env i in
        let here = h 0 part refl env i (is_plain 0 part refl) clean.0 in
        let later = parts-have parts (λ n. h (suc n)) (λ n. is_plain (suc n)) (bind part.name r.value env) r.place clean.1 in
        record {
          bytes = here.bytes ++ later.bytes;
          is = both-bytes _ _ here.bytes later.bytes here.is later.is;
          short = omega (arith, here.short, later.short, length-append here.bytes later.bytes);
          fits = fit.part here.fits later.fits;
        }

    struct-plain : (parts : List Part) → IsPlain (term.Struct parts) → EachPart IsPlain parts
    struct-plain parts is_plain n part there =
        plain-inside (Term-F.Struct parts) (term.outs-Struct parts) is_plain n part.term
        (slice_get-map (λ (part : Part). part.term) parts n ∙ ap (option_map (λ (part : Part). part.term)) there)

    -- unions
    arm-plain : (arms : List Arm) → IsPlain (term.Alt arms) → (n : ℕ) (arm : Arm) → slice_get arms n ≡ Some arm → IsPlain arm.term
    arm-plain arms is_plain n arm there =
        plain-inside (Term-F.Alt arms) (term.outs-Alt arms) is_plain n arm.term
        (slice_get-map (λ (arm : Arm). arm.term) arms n ∙ ap (option_map (λ (arm : Arm). arm.term)) there)

    case-plain : (e : Expr) (cases : List Case) → IsPlain (term.Switch e cases) → (n : ℕ) (case : Case) → slice_get cases n ≡ Some case → IsPlain case.arm.term
    case-plain e cases is_plain n case there =
        plain-inside (Term-F.Switch e cases) (term.outs-Switch e cases) is_plain n case.arm.term
        (slice_get-map (λ (case : Case). case.arm.term) cases n ∙ ap (option_map (λ (case : Case). case.arm.term)) there)

    arm-has : (arms : List Arm) (n : ℕ) (arm : Arm) → slice_get arms n ≡ Some arm → (env : Pairs) (i : ℕ) (r : Reading) → HasBytes depth arm.term env i r
        → HasBytes depth (term.Alt arms) env i (branch_of subject.origin n r i)
    arm-has arms n arm there env i r here = record {
      bytes = here.bytes;
      is = spelled-Alt speller arms env (val.Branch n r.value)
          ∙ branch-bytes (map (arm_speller speller) arms) n (arm_speller speller arm) env r.value
          (slice_get-map (arm_speller speller) arms n ∙ ap (option_map (arm_speller speller)) there) ∙ here.is;
      short = here.short;
      fits = fit.alt arms n there here.fits;
    }

    case-has : (e : Expr) (cases : List Case) (n : ℕ) (case : Case) → slice_get cases n ≡ Some case → (env : Pairs) (i : ℕ) (r : Reading) → HasBytes depth case.arm.term env i r
        → HasBytes depth (term.Switch e cases) env i (branch_of subject.origin n r i)
    case-has e cases n case there env i r here = record {
      bytes = here.bytes;
      is = spelled-Switch speller e cases env (val.Branch n r.value)
          ∙ branch-bytes (map (case_speller speller) cases) n (case_speller speller case) env r.value
          (slice_get-map (case_speller speller) cases n ∙ ap (option_map (case_speller speller)) there) ∙ here.is;
      short = here.short;
      fits = fit.switch e cases n there here.fits;
    }

    -- arrays
    record BetweenBytes (o : Option Term) (is_first : Bool) (env : Pairs) (j begin : ℕ) : Type 0 where
      bytes : List ℕ
      is : before (option_map (spelled speller) o) is_first env ≡ Some bytes
      short : j + length bytes ≤ begin
      fits : FitBetween decls depth o is_first env bytes

    between-has : (o : Option Term) → WhereThere Has o → WhereThere IsPlain o → IsSeparator o → (is_first : Bool) (env : Pairs) (j begin : ℕ)
        → Begins env (option_reader subject call o) is_first j begin → BetweenBytes o is_first env j begin
    between-has None h is_plain mark is_first env j begin at = record { bytes = []; is = refl; short = omega (arith, at); fits = fit.unseparated }
    between-has (Some t) h is_plain mark true env j begin at = record { bytes = []; is = refl; short = omega (arith, at); fits = fit.at_first }
    between-has (Some t) h is_plain mark false env j begin at =
        let here = h t refl env j (is_plain t refl) at.0 in
        let none = absorb-unit subject call env j t mark at.0 in
        record {
          bytes = here.bytes;
          is = ap (canon decls depth t env) (sym none) ∙ here.is;
          short = omega (arith, here.short, at.1);
          fits = fit.separated here.fits;
        }

    record ElementsBytes (s : Seq) (is_first : Bool) (env : Pairs) (j : ℕ) (rest : List Reading) : Type 0 where
      bytes : List ℕ
      is : each_element (seq_speller speller s) is_first env (values rest) ≡ Some bytes
      short : j + length bytes ≤ end_of j rest
      fits : FitElements decls depth s is_first env (values rest) bytes

    -- what the parts of a plain array are
    record PlainSeq (s : Seq) : Type 0 where
      elem : IsPlain s.elem
      sep : WhereThere IsPlain s.sep
      mark : IsSeparator s.sep

    first-there : (o : Option Term) (more : List Term) (t : Term) → o ≡ Some t → slice_get (if_there o ++ more) 0 ≡ Some t
    first-there None more t there = absurd cc
    first-there (Some found) more t there = there

    seq-plain : (s : Seq) → IsPlain (term.Seq s) → PlainSeq s
    seq-plain s is_plain =
        let inside = plain-inside (Term-F.Seq s) (term.outs-Seq s) is_plain in
        record {
          elem = inside 0 s.elem refl;
          sep = λ t there. inside 1 t (first-there s.sep (if_there s.stop) t there);
          mark = plain-here (Term-F.Seq s) (term.outs-Seq s) is_plain;
        }

    elements-have : (s : Seq) → InSeq Has s → PlainSeq s → (size : Option ℕ) (env : Pairs) (turns : ℕ) (earlier : List Val) (j : ℕ) (rest : List Reading)
        → CleanTurns subject.bytes (seq_reader subject call s) size env turns earlier j rest → ElementsBytes s (is_empty earlier) env j rest
    elements-have s h is_plain size env turns earlier j [] clean = record { bytes = []; is = refl; short = omega arith; fits = fit.no_element }
    elements-have s h is_plain size env zero earlier j (r ∷ rest) clean = absurd clean
    elements-have s h is_plain size env (suc turns) earlier j (r ∷ rest) clean =
        let kept = clean.1 in
        let apart = between-has s.sep h.sep is_plain.sep is_plain.mark (is_empty earlier) env j kept.begin kept.begins in
        let here = subst (HasBytes depth s.elem env kept.begin) (sym kept.is) (h.elem env kept.begin is_plain.elem (ap is_ok (sym kept.is) ∙ clean.2)) in
        let more = elements-have s h is_plain size env turns (earlier ++ r.value ∷ []) r.place rest clean.3 in
        let later = subst (λ is_first. ElementsBytes s is_first env r.place rest) (later-now earlier r.value) more in
        record {
          bytes = apart.bytes ++ (here.bytes ++ later.bytes);
          is = both-bytes _ _ apart.bytes (here.bytes ++ later.bytes) apart.is (both-bytes _ _ here.bytes later.bytes here.is later.is);
          short = omega (arith, apart.short, here.short, later.short, length-append apart.bytes (here.bytes ++ later.bytes), length-append here.bytes later.bytes);
          fits = fit.element apart.fits here.fits later.fits;
        }

    seq-has : (s : Seq) → InSeq Has s → IsPlain (term.Seq s) → (env : Pairs) (i : ℕ) → is_ok (seq_of subject (seq_reader subject call s) env i) ≡ true
        → HasBytes depth (term.Seq s) env i (seq_of subject (seq_reader subject call s) env i)
    seq-has s h is_plain env i ok =
        let clean = clean-seq subject (seq_reader subject call s) env i ok in
        let all = elements-have s h (seq-plain s is_plain) clean.size env _ [] i clean.readings clean.turns in
        by depth (term.Seq s) env i _ _ clean.is (record {
          bytes = all.bytes;
          is = spelled-Seq speller s env (val.Array (values clean.readings)) ∙ array-bytes (seq_speller speller s) env (values clean.readings) ∙ all.is;
          short = all.short;
          fits = fit.seq clean.sized_by (few subject decls depth s clean.size env _ i clean.readings clean.turns) all.fits;
        })

    -- what is absorbed
    absorb-has : (inner : Term) → Has inner → IsPlain (term.Absorb inner) → (env : Pairs) (i : ℕ) → is_ok (absorb_of (meaning subject decls depth inner env i)) ≡ true
        → HasBytes depth (term.Absorb inner) env i (absorb_of (meaning subject decls depth inner env i))
    absorb-has inner h is_plain env i ok =
        let r = meaning subject decls depth inner env i in
        let clean = clean-absorb r ok in
        let is = term.outs-Absorb inner in
        let here = h env i (plain-inside (Term-F.Absorb inner) is is_plain 0 inner refl) clean.0 in
        let none = mark-unit subject call env i inner (plain-here (Term-F.Absorb inner) is is_plain) clean.0 in
        record {
          bytes = here.bytes;
          is = spelled-Absorb speller inner env (absorb_of r).value ∙ ap (of_unit (canon decls depth inner env val.Unit)) clean.1
              ∙ unit-bytes (canon decls depth inner env val.Unit) ∙ ap (canon decls depth inner env) (sym none) ∙ here.is;
          short = here.short;
          fits = subst (λ v. Fits decls depth (term.Absorb inner) env v here.bytes) (sym clean.1) (fit.absorb here.fits);
        }

  rest-bounded : (i : ℕ) → length (drop i subject.bytes) ≤ widest
  rest-bounded i = omega (arith, bounded, length-drop i subject.bytes)

  bytes-forms : EachReading IfPlain subject decls
  bytes-forms = record {
    of_unit = λ depth env i is_plain ok. unit-has depth term.Unit env i (spelled-Unit (speller depth) env val.Unit ∙ unit-bytes (Some [])) fit.unit;
    of_base = λ depth base args env i is_plain ok. (
        let clean = clean-base subject base (arguments args env) i ok in
        let found = base-bytes base clean.found (drop i subject.bytes) clean.size clean.value
        (plain-here (Term-F.Base base args) (term.outs-Base base args) is_plain) (rest-bounded i) clean.reads in
        by depth (term.Base base args) env i _ _ clean.is (record {
          bytes = found.bytes;
          is = spelled-Base (speller depth) base args env clean.value ∙ ap (λ given. of_base base given clean.value) clean.given ∙ found.is;
          short = omega (arith, found.short);
          fits = fit.base base args clean.given found.spells;
        }));
    of_lit = λ depth literal env i is_plain ok. by depth (term.Lit literal) env i _ _ (clean-lit subject literal i ok).is (lit-has depth literal env i);
    of_eor = λ depth env i is_plain ok. by depth term.Eor env i _ _ (clean-eor subject i ok).is
        (unit-has depth term.Eor env i (spelled-Eor (speller depth) env val.Unit ∙ unit-bytes (Some [])) fit.eor);
    of_struct = λ depth parts h env i is_plain ok. (
        let readings = in_turn (map (part_reader subject (caller subject decls depth)) parts) env i in
        let all = parts-have depth parts h (struct-plain depth parts is_plain) env i (clean-struct subject (caller subject decls depth) parts env i ok) in
        record {
          bytes = all.bytes;
          is = spelled-Struct (speller depth) parts env (val.Tuple (values readings)) ∙ tuple-bytes (map (part_speller (speller depth)) parts) env (values readings) ∙ all.is;
          short = all.short;
          fits = fit.struct all.fits;
        });
    of_alt = λ depth arms h env i is_plain ok. (
        let clean = clean-alt subject (caller subject decls depth) arms env i ok in
        let here = h clean.number clean.arm clean.there env i (arm-plain depth arms is_plain clean.number clean.arm clean.there) clean.clean in
        let same : 0 + clean.number ≡ clean.number = omega arith in
        by depth (term.Alt arms) env i _ _ (clean.is ∙ ap (λ n. branch_of subject.origin n (meaning subject decls depth clean.arm.term env i) i) same)
        (arm-has depth arms clean.number clean.arm clean.there env i _ here));
    of_switch = λ depth e cases h env i is_plain ok. (
        let clean = clean-switch subject (caller subject decls depth) (chosen (argument e env) (map (λ c. c.key) cases)) cases env i ok in
        let here = h clean.number clean.case clean.there env i (case-plain depth e cases is_plain clean.number clean.case clean.there) clean.clean in
        by depth (term.Switch e cases) env i _ _ clean.is (case-has depth e cases clean.number clean.case clean.there env i _ here));
    of_guard = λ depth inner binder condition h env i is_plain ok. (
        let r = meaning subject decls depth inner env i in
        let clean = clean-guard binder condition env r ok in
        let here = h env i (plain-inside (Term-F.Guard inner binder condition) (term.outs-Guard inner binder condition) is_plain 0 inner refl) clean.clean in
        by depth (term.Guard inner binder condition) env i _ _ clean.is (record {
          bytes = here.bytes;
          is = spelled-Guard (speller depth) inner binder condition env r.value ∙ here.is;
          short = here.short;
          fits = fit.guard binder condition clean.holds here.fits;
        }));
    of_seq = λ depth s h env i is_plain ok. seq-has depth s h is_plain env i ok;
    of_compute = λ depth e form env i is_plain ok. (
        let clean = clean-compute subject form (worth_or_none (value e env)) i ok in
        by depth (term.Compute e form) env i _ _ clean.is (record {
          bytes = [];
          is = spelled-Compute (speller depth) e form env clean.value ∙ computed-bytes form (worth_or_none (value e env)) clean.value clean.told;
          short = omega arith;
          fits = fit.compute e form clean.told;
        }));
    of_absorb = λ depth inner h env i is_plain ok. absorb-has depth inner h is_plain env i ok;
    of_scan = λ depth inner h env i is_plain ok. (
        let r = meaning subject decls depth inner env i in
        let clean = clean-scan subject (meaning subject decls depth inner) env i ok in
        let here = h env i (plain-inside (Term-F.Scan inner) (term.outs-Scan inner) is_plain 0 inner refl) clean.0 in
        by depth (term.Scan inner) env i _ _ clean.1 (record {
          bytes = here.bytes;
          is = spelled-Scan (speller depth) inner env r.value ∙ here.is;
          short = here.short;
          fits = fit.scan here.fits;
        }));
    too_deep = λ number args env i. never 0 (term.Call number args) env i cause.Depth;
    unargued = λ depth number args env i none. never (suc depth) (term.Call number args) env i cause.BadParam;
    undeclared = λ depth number args env i none. never (suc depth) (term.Call number args) env i cause.BadParam;
    of_body = λ depth number args found decl env i given there h is_plain ok. (
        let here = h (modules number decl there) ok in
        record {
          bytes = here.bytes;
          is = spelled-Call (call_spelled decls (suc depth)) number args env _ ∙ call-bytes decls depth number args found decl env _ given there ∙ here.is;
          short = here.short;
          fits = fit.call number args given there here.fits;
        });
  }

  pub call-has : (depth number : ℕ) (args : List Expr) (env : Pairs) (i : ℕ) → IfPlain depth (term.Call number args) env i (caller subject decls depth number args env i)
  call-has depth number args env i = each-call IfPlain subject decls bytes-forms depth number args env i
