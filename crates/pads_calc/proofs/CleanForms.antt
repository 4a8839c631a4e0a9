-- What a clean reading tells, form by form, but for arrays: what it is, and that the readings inside of it
-- are clean.
use Rattle.std.proofs.Common.{◌≡◌, ◌∙◌, sym, ap, refl, arith, ℕ, zero, suc, ◌+◌, ◌-◌, ◌<◌, ◌≤◌, nat_eq, Bool, true, false, not, ◌&&◌, if◌then◌else◌, List, [], ◌∷◌, map, drop, length, Option, None, Some, slice_get, option_map}
use Rattle.std.specs.Prelude.{⊤}
use Rattle.std.specs.List.{starts_with}
use Rattle.std.proofs.lemmas.Bool.{and_parts, both_ways, lt-ltb}
use Rattle.pads_value.specs.Header.{all_clean, is_clean}
use Rattle.pads_value.specs.declared.cause.Cause.TheVariants as cause
use Rattle.pads_value.specs.declared.descriptor.Pd.{out-Pd}
use Rattle.pads_value.specs.declared.reading.Read.{Read}
use Rattle.pads_value.specs.declared.reading.Read.TheVariants.{Good, Soft, Hard}
use Rattle.pads_value.specs.declared.value.Val.{Val}
use Rattle.pads_value.specs.declared.value.Val.TheVariants as val
use Rattle.pads_expr.specs.declared.expr.Expr.{Expr}
use Rattle.pads_expr.specs.Value.{Pairs}
use Rattle.pads_expr.specs.Worth.{Worth}
use Rattle.pads_dispatch.specs.declared.base.Arg.{Arg}
use Rattle.pads_dispatch.specs.declared.base.Base.{Base}
use Rattle.pads_dispatch.specs.Readings.{base_reading}
use Rattle.pads_dispatch.specs.Sizes.{taken}
use Rattle.pads_dispatch.proofs.Takes.{base-takes}
use Rattle.pads_calc.specs.declared.decl.Decl.{Decl}
use Rattle.pads_calc.specs.declared.reading.Reading.{Reading}
use Rattle.pads_calc.specs.declared.term.Arm.{Arm}
use Rattle.pads_calc.specs.declared.term.Case.{Case}
use Rattle.pads_calc.specs.declared.term.Part.{Part}
use Rattle.pads_calc.specs.declared.term.ComputedForm.{ComputedForm}
use Rattle.pads_calc.specs.Arguments.{arguments, bound_to, is_true}
use Rattle.pads_calc.specs.Calculus.{Caller, read, caller, meaning, body_of, part_reader, arm_reader, case_reader}
use Rattle.pads_calc.specs.Choices.{branch_of, alt_from, case_at, switch_of}
use Rattle.pads_calc.specs.Leaves.{lit_of, eor_of, at_end, base_node, base_of, computed_told, compute_node, compute_of}
use Rattle.pads_calc.specs.Readings.{Subject, Reader, leaf, fails, is_ok, values, pds, end_of}
use Rattle.pads_calc.specs.Structs.{bind, in_turn, struct_of}
use Rattle.pads_calc.specs.Wrappers.{constrained, guard_of, absorb_of, found_at, last_place, scan, scan_from}
use Rattle.pads_calc.proofs.Calls.{caller-zero, caller-suc}
use Rattle.pads_calc.proofs.Cases.{pick}
use Rattle.pads_calc.proofs.Choices.{slice_get-map}
use Rattle.pads_calc.proofs.CleanNodes.{clean-node, fails-unclean, faulty-unclean, caused-unclean}
use Rattle.pads_calc.proofs.Scans.{found-here}

-- of two readings, of which one isn't clean, it is the other
if-clean : (b : Bool) (x y : Reading) → is_ok y ≡ false → is_ok (if b then x else y) ≡ true → (b ≡ true) × ((if b then x else y) ≡ x)
if-clean true x y bad ok = (refl, refl)
if-clean false x y bad ok = cc

module _ (subject : Subject) where
  -- a literal stands here; it has no value
  pub record CleanLit (literal : List ℕ) (i : ℕ) : Type 0 where
    pub stands : starts_with nat_eq (drop i subject.bytes) literal ≡ true
    pub is : lit_of subject literal i ≡ leaf subject.origin val.Unit i (i + length literal)

  pub clean-lit : (literal : List ℕ) (i : ℕ) → is_ok (lit_of subject literal i) ≡ true → CleanLit literal i
  clean-lit literal i ok =
      let found = if-clean (starts_with nat_eq (drop i subject.bytes) literal) (leaf subject.origin val.Unit i (i + length literal))
      (fails subject.origin cause.MissingLiteral i) (fails-unclean subject.origin cause.MissingLiteral i) ok in
      record { stands = found.0; is = found.1 }

  -- no byte is left; the end of the record has no value
  pub record CleanEor (i : ℕ) : Type 0 where
    pub ends : at_end subject.bytes i ≡ true
    pub is : eor_of subject i ≡ leaf subject.origin val.Unit i i

  pub clean-eor : (i : ℕ) → is_ok (eor_of subject i) ≡ true → CleanEor i
  clean-eor i ok =
      let found = if-clean (at_end subject.bytes i) (leaf subject.origin val.Unit i i)
      (fails subject.origin cause.MissingEor i) (fails-unclean subject.origin cause.MissingEor i) ok in
      record { ends = found.0; is = found.1 }

  -- a base type with all of its arguments, which reads without a fault, within the bytes that there are
  pub record CleanBase (base : Base) (args : Option (List Arg)) (i : ℕ) : Type 0 where
    pub found : List Arg
    pub size : ℕ
    pub value : Val
    pub given : args ≡ Some found
    pub reads : base_reading base found (drop i subject.bytes) ≡ Good size value
    pub fits : size ≤ length (drop i subject.bytes)
    pub is : base_of subject base args i ≡ leaf subject.origin value i (i + size)

  clean-read : (base : Base) (found : List Arg) (i : ℕ) (read : Read Val) → base_reading base found (drop i subject.bytes) ≡ read
      → taken read ≤ length (drop i subject.bytes) → is_ok (base_node subject.origin i read) ≡ true → CleanBase base (Some found) i
  clean-read base found i (Good size value) reads fits ok = record {
    found = found;
    size = size;
    value = value;
    given = refl;
    reads = reads;
    fits = fits;
    is = ap (base_node subject.origin i) reads;
  }
  clean-read base found i (Soft size cause) reads fits ok = let bad = faulty-unclean subject.origin cause i (i + size) in absurd cc
  clean-read base found i (Hard cause) reads fits ok = let bad = fails-unclean subject.origin cause i in absurd cc

  pub clean-base : (base : Base) (args : Option (List Arg)) (i : ℕ) → is_ok (base_of subject base args i) ≡ true → CleanBase base args i
  clean-base base None i ok = let bad = fails-unclean subject.origin cause.BadParam i in absurd cc
  clean-base base (Some found) i ok =
      clean-read base found i (base_reading base found (drop i subject.bytes)) refl (base-takes base found (drop i subject.bytes)) ok

  -- a computed field whose expression has a value of its form
  pub record CleanCompute (form : ComputedForm) (found : Option Worth) (i : ℕ) : Type 0 where
    pub value : Val
    pub told : computed_told form found ≡ Some value
    pub is : compute_of subject.origin form found i ≡ leaf subject.origin value i i

  clean-value : (form : ComputedForm) (found : Option Worth) (i : ℕ) (value : Option Val) → computed_told form found ≡ value
      → is_ok (compute_node subject.origin i value) ≡ true → CleanCompute form found i
  clean-value form found i None told ok = let bad = fails-unclean subject.origin cause.Compute i in absurd cc
  clean-value form found i (Some value) told ok = record { value = value; told = told; is = ap (compute_node subject.origin i) told }

  pub clean-compute : (form : ComputedForm) (found : Option Worth) (i : ℕ) → is_ok (compute_of subject.origin form found i) ≡ true → CleanCompute form found i
  clean-compute form found i ok = clean-value form found i (computed_told form found) refl ok

-- a constraint is asked, and true, of a clean reading, which stays as it is
pub record CleanGuard (binder : ℕ) (condition : Expr) (env : Pairs) (r : Reading) : Type 0 where
  pub clean : is_ok r ≡ true
  pub holds : is_true condition ((binder, r.value) ∷ env) ≡ true
  pub is : guard_of binder condition env r ≡ r

guarded-by : (r : Reading) (clean truth : Bool) → is_ok r ≡ clean → is_ok (if clean && not truth then constrained r else r) ≡ true
    → (clean ≡ true) × (truth ≡ true) × ((if clean && not truth then constrained r else r) ≡ r)
guarded-by r true true is ok = (refl, refl, refl)
guarded-by r true false is ok =
    absurd (both_ways (is_ok (constrained r)) (caused-unclean cause.Constraint (out-Pd r.pd).span.begin r) ok)
guarded-by r false truth is ok = absurd cc

pub clean-guard : (binder : ℕ) (condition : Expr) (env : Pairs) (r : Reading) → is_ok (guard_of binder condition env r) ≡ true → CleanGuard binder condition env r
clean-guard binder condition env r ok =
    let found = guarded-by r (is_ok r) (is_true condition ((binder, r.value) ∷ env)) refl ok in
    record { clean = found.0; holds = found.1; is = found.2 }

-- what is absorbed is clean where its reading is, and then has no value
pub clean-absorb : (r : Reading) → is_ok (absorb_of r) ≡ true → (is_ok r ≡ true) × ((absorb_of r).value ≡ val.Unit)
clean-absorb r ok = (ok, ap (λ (found : Bool). if found then val.Unit else val.Missing) ok)

-- what a clean search finds stands here
module _ (origin : ℕ) (inner : Reader) (env : Pairs) (i : ℕ) where
  found-later : (j : ℕ) (r : Reading) → i < j → is_ok (found_at origin i j r) ≡ false
  found-later j r later = rw (lt-ltb i j later) (caused-unclean cause.Skipped (origin + i) r)

  scan-past : (places j : ℕ) → i < j → is_ok (scan_from origin places inner env i j) ≡ false
  unfolding scan_from
  scan-past zero j later = fails-unclean origin _ i
  scan-past (suc places) j later =
      pick (λ r. is_ok r ≡ false) (is_ok (inner env j)) (found_at origin i j (inner env j)) (scan_from origin places inner env i (j + 1))
      (λ _. found-later j (inner env j) later) (λ _. scan-past places (j + 1) (omega arith))

  scan-first : (places : ℕ) → is_ok (scan_from origin (suc places) inner env i i) ≡ true
      → (is_ok (inner env i) ≡ true) × (scan_from origin (suc places) inner env i i ≡ inner env i)
  unfolding scan_from
  scan-first places ok =
      let found = if-clean (is_ok (inner env i)) (found_at origin i i (inner env i)) (scan_from origin places inner env i (i + 1))
      (scan-past places (i + 1) (omega arith)) ok in
      (found.0, found.1 ∙ found-here origin i (inner env i))

pub clean-scan : (subject : Subject) (inner : Reader) (env : Pairs) (i : ℕ) → is_ok (scan subject inner env i) ≡ true
    → (is_ok (inner env i) ≡ true) × (scan subject inner env i ≡ inner env i)
clean-scan subject inner env i ok = scan-first subject.origin inner env i (last_place subject i - i) ok

-- a branch is clean where what it reads is
pub clean-branch : (origin number : ℕ) (r : Reading) (i : ℕ) → is_ok (branch_of origin number r i) ≡ true → is_ok r ≡ true
clean-branch origin number r i ok =
    (and_parts (is_clean r.pd) true (sym (clean-node origin (val.Branch number r.value) i r.place (r.pd ∷ [])) ∙ ok)).0

module _ (subject : Subject) (call : Caller) where
  -- each part reads clean, behind the earlier ones and in the environment that they leave
  abbrev pub CleanParts : List Part → Pairs → ℕ → Type 0
  CleanParts [] env i = ⊤
  CleanParts (part ∷ parts) env i =
      let r = read subject call part.term env i in (is_ok r ≡ true) × CleanParts parts (bind part.name r.value env) r.place

  parts-clean : (parts : List Part) (env : Pairs) (i : ℕ) → all_clean (pds (in_turn (map (part_reader subject call) parts) env i)) ≡ true → CleanParts parts env i
  parts-clean [] env i ok = tt
  parts-clean (part ∷ parts) env i ok =
      let r = read subject call part.term env i in
      let both = and_parts (is_clean r.pd) (all_clean (pds (in_turn (map (part_reader subject call) parts) (bind part.name r.value env) r.place))) ok in
      (both.0, parts-clean parts (bind part.name r.value env) r.place both.1)

  pub clean-struct : (parts : List Part) (env : Pairs) (i : ℕ)
      → is_ok (struct_of subject.origin (in_turn (map (part_reader subject call) parts) env i) i) ≡ true → CleanParts parts env i
  clean-struct parts env i ok =
      let readings = in_turn (map (part_reader subject call) parts) env i in
      parts-clean parts env i (sym (clean-node subject.origin (val.Tuple (values readings)) i (end_of i readings) (pds readings)) ∙ ok)

  -- the first of the branches from `n` on that reads clean
  pub record CleanArm (arms : List Arm) (n : ℕ) (env : Pairs) (i : ℕ) (r : Reading) : Type 0 where
    pub number : ℕ
    pub arm : Arm
    pub there : slice_get arms number ≡ Some arm
    pub clean : is_ok (read subject call arm.term env i) ≡ true
    pub earlier : (m : ℕ) (other : Arm) → m < number → slice_get arms m ≡ Some other → is_ok (read subject call other.term env i) ≡ false
    pub is : r ≡ branch_of subject.origin (n + number) (read subject call arm.term env i) i

  alt-here : (arm : Arm) (arms : List Arm) (n : ℕ) (env : Pairs) (i : ℕ) → is_ok (read subject call arm.term env i) ≡ true
      → CleanArm (arm ∷ arms) n env i (branch_of subject.origin n (read subject call arm.term env i) i)
  alt-here arm arms n env i clean =
      let same : n ≡ n + 0 = omega arith in
      record {
        number = 0;
        arm = arm;
        there = refl;
        clean = clean;
        earlier = λ m other less there. absurd (omega (arith, less));
        is = ap (λ n. branch_of subject.origin n (read subject call arm.term env i) i) same;
      }

  alt-later : (arm : Arm) (arms : List Arm) (n : ℕ) (env : Pairs) (i : ℕ) (r : Reading) → is_ok (read subject call arm.term env i) ≡ false
      → CleanArm arms (n + 1) env i r → CleanArm (arm ∷ arms) n env i r
  alt-later arm arms n env i r bad found =
      let same : n + 1 + found.number ≡ n + suc found.number = omega arith in
      record {
        number = suc found.number;
        arm = found.arm;
        there = found.there;
        clean = found.clean;
        earlier = earlier;
        is = found.is ∙ ap (λ n. branch_of subject.origin n (read subject call found.arm.term env i) i) same;
      }
    where
      earlier : (m : ℕ) (other : Arm) → m < suc found.number → slice_get (arm ∷ arms) m ≡ Some other → is_ok (read subject call other.term env i) ≡ false
      earlier zero other less there = let same : arm ≡ other = cc in ap (λ (arm : Arm). is_ok (read subject call arm.term env i)) (sym same) ∙ bad
      earlier (suc m) other less there = found.earlier m other (omega (arith, less)) there

  clean-from : (arms : List Arm) (n : ℕ) (env : Pairs) (i : ℕ) → is_ok (alt_from subject.origin n (map (arm_reader subject call) arms) env i) ≡ true
      → CleanArm arms n env i (alt_from subject.origin n (map (arm_reader subject call) arms) env i)
  clean-from [] n env i ok = let bad = fails-unclean subject.origin cause.UnionMatch i in absurd cc
  clean-from (arm ∷ arms) n env i ok =
      let r = read subject call arm.term env i in
      let later = alt_from subject.origin (n + 1) (map (arm_reader subject call) arms) env i in
      pick (λ found. is_ok found ≡ true → CleanArm (arm ∷ arms) n env i found) (is_ok r) (branch_of subject.origin n r i) later
      (λ clean ok. alt-here arm arms n env i clean)
      (λ bad ok. alt-later arm arms n env i later bad (clean-from arms (n + 1) env i ok))
      ok

  -- a clean union is its first branch that reads clean
  pub clean-alt : (arms : List Arm) (env : Pairs) (i : ℕ) → is_ok (alt_from subject.origin 0 (map (arm_reader subject call) arms) env i) ≡ true
      → CleanArm arms 0 env i (alt_from subject.origin 0 (map (arm_reader subject call) arms) env i)
  clean-alt arms env i ok = clean-from arms 0 env i ok

  -- the case that is chosen reads clean
  pub record CleanCase (chosen : Option ℕ) (cases : List Case) (env : Pairs) (i : ℕ) : Type 0 where
    pub number : ℕ
    pub case : Case
    pub chosen_is : chosen ≡ Some number
    pub there : slice_get cases number ≡ Some case
    pub clean : is_ok (read subject call case.arm.term env i) ≡ true
    pub is : switch_of subject.origin chosen (map (case_reader subject call) cases) env i
        ≡ branch_of subject.origin number (read subject call case.arm.term env i) i

  clean-case : (number : ℕ) (cases : List Case) (env : Pairs) (i : ℕ) (found : Option Case) → slice_get cases number ≡ found
      → slice_get (map (case_reader subject call) cases) number ≡ option_map (case_reader subject call) found
      → is_ok (case_at subject.origin number (option_map (case_reader subject call) found) env i) ≡ true → CleanCase (Some number) cases env i
  clean-case number cases env i None there same ok = let bad = fails-unclean subject.origin cause.Switch i in absurd cc
  clean-case number cases env i (Some case) there same ok = record {
    number = number;
    case = case;
    chosen_is = refl;
    there = there;
    clean = clean-branch subject.origin number (read subject call case.arm.term env i) i ok;
    is = ap (λ found. case_at subject.origin number found env i) same;
  }

  pub clean-switch : (chosen : Option ℕ) (cases : List Case) (env : Pairs) (i : ℕ)
      → is_ok (switch_of subject.origin chosen (map (case_reader subject call) cases) env i) ≡ true → CleanCase chosen cases env i
  clean-switch None cases env i ok = let bad = fails-unclean subject.origin cause.Switch i in absurd cc
  clean-switch (Some number) cases env i ok =
      let same = slice_get-map (case_reader subject call) cases number in
      clean-case number cases env i (slice_get cases number) refl same
      (ap (λ found. is_ok (case_at subject.origin number found env i)) (sym same) ∙ ok)

-- a clean call is its body's reading, with calls nested one less deep and the arguments as its whole environment
pub record CleanCall (subject : Subject) (decls : List Decl) (depth number : ℕ) (args : List Expr) (env : Pairs) (i : ℕ) : Type 0 where
  pub less : ℕ
  pub found : List Arg
  pub decl : Decl
  pub deeper : depth ≡ suc less
  pub given : arguments args env ≡ Some found
  pub declared : slice_get decls number ≡ Some decl
  pub is : caller subject decls depth number args env i ≡ meaning subject decls less decl.body (bound_to decl.params found []) i

clean-body : (subject : Subject) (decls : List Decl) (depth number : ℕ) (args : List Expr) (env : Pairs) (i : ℕ) (found : Option (List Arg)) (decl : Option Decl)
    → arguments args env ≡ found → slice_get decls number ≡ decl
    → caller subject decls (suc depth) number args env i ≡ body_of subject.origin (meaning subject decls depth) decl found i
    → is_ok (body_of subject.origin (meaning subject decls depth) decl found i) ≡ true → CleanCall subject decls (suc depth) number args env i
clean-body subject decls depth number args env i None decl given declared is ok = let bad = fails-unclean subject.origin cause.BadParam i in absurd cc
clean-body subject decls depth number args env i (Some found) None given declared is ok = let bad = fails-unclean subject.origin cause.BadParam i in absurd cc
clean-body subject decls depth number args env i (Some found) (Some decl) given declared is ok = record {
  less = depth;
  found = found;
  decl = decl;
  deeper = refl;
  given = given;
  declared = declared;
  is = is;
}

pub clean-call : (subject : Subject) (decls : List Decl) (depth number : ℕ) (args : List Expr) (env : Pairs) (i : ℕ)
    → is_ok (caller subject decls depth number args env i) ≡ true → CleanCall subject decls depth number args env i
clean-call subject decls zero number args env i ok =
    let same = caller-zero subject decls number args env i in
    let bad = fails-unclean subject.origin cause.Depth i in absurd cc
clean-call subject decls (suc depth) number args env i ok =
    let same = caller-suc subject decls number args env i depth in
    clean-body subject decls depth number args env i (arguments args env) (slice_get decls number) refl refl same (ap is_ok (sym same) ∙ ok)
