-- A masked module stays well formed: its terms have as many parts, and what they speak of is there.
use Rattle.std.proofs.Common.{◌≡◌, ◌∙◌, sym, ap, refl, subst, ℕ, zero, suc, Bool, true, false, ◌&&◌, nat_lt, nat_le, List, [], ◌∷◌, map, length, Option, Some, None, slice_get, if◌then◌else◌}
use Rattle.std.specs.List.{list_all}
use Rattle.std.proofs.lemmas.Bool.{and_from, and_parts}
use Rattle.std.proofs.lemmas.List.{length-map}
use Rattle.pads_expr.specs.declared.expr.Expr.{Expr}
use Rattle.pads_calc.specs.declared.decl.Decl.{Decl}
use Rattle.pads_calc.specs.declared.decl.Shape.{Shape}
use Rattle.pads_calc.specs.declared.term.Arm.{Arm}
use Rattle.pads_calc.specs.declared.term.Case.{Case}
use Rattle.pads_calc.specs.declared.term.Part.{Part}
use Rattle.pads_calc.specs.declared.term.Seq.{Seq}
use Rattle.pads_calc.specs.declared.term.Term.{Term}
use Rattle.pads_module.specs.Counts.{counts_fit, option_counts, decl_counts, module_counts, few, most}
use Rattle.pads_module.specs.Modules.{Contents, is_formed}
use Rattle.pads_module.specs.Scopes.{arities_of, arm_in, bind_name, binding_of, case_in, decl_in_scope, exprs_in_scope, expr_in_scope, in_scope, module_in_scope, name_there, option_in_scope, option_term_in, parts_in, seq_in, shape_there}
use Rattle.pads_module.proofs.CountRolls.{counts-Struct, counts-Alt, counts-Switch, counts-Guard, counts-Seq, counts-Absorb, counts-Scan}
use Rattle.pads_calc.proofs.Induction.{EachArm, EachCase, EachForm, EachPart, InSeq, WhereThere, each-term}
use Rattle.pads_module.proofs.TermRolls.{in-Struct, in-Alt, in-Switch, in-Guard, in-Seq, in-Absorb, in-Scan}
use Rattle.pads_erase.specs.declared.mask.Mask.{Mask}
use Rattle.pads_erase.specs.declared.mode.Mode.{Mode}
use Rattle.pads_erase.specs.Modes.{checks, mode_for}
use Rattle.pads_mask.specs.Masks.{masked, masked_decl, masked_decls, name_of}
use Rattle.pads_mask.specs.Unguarded.{unguarded, unguarded_arm, unguarded_case, unguarded_option, unguarded_part, unguarded_seq}
use Rattle.pads_mask.proofs.Rolls.{unguarded-Unit, unguarded-Base, unguarded-Lit, unguarded-Eor, unguarded-Struct, unguarded-Alt, unguarded-Switch, unguarded-Guard, unguarded-Seq, unguarded-Call, unguarded-Compute, unguarded-Absorb, unguarded-Scan}

-- lists whose items are changed one by one
all-mapped : {A : Type 0} (g : A → A) (test : A → Bool) (xs : List A) → ((n : ℕ) (x : A) → slice_get xs n ≡ Some x → test (g x) ≡ test x)
    → list_all test (map g xs) ≡ list_all test xs
all-mapped g test [] same = refl
all-mapped g test (x ∷ xs) same =
    ap (λ first. first && list_all test (map g xs)) (same zero x refl) ∙ ap (λ rest. test x && rest) (all-mapped g test xs (λ n. same (suc n)))

all-kept : {A B : Type 0} (g : A → B) (test : A → Bool) (test' : B → Bool) (xs : List A) → ((n : ℕ) (x : A) → slice_get xs n ≡ Some x → test x ≡ true → test' (g x) ≡ true)
    → list_all test xs ≡ true → list_all test' (map g xs) ≡ true
all-kept g test test' [] keeps all = refl
all-kept g test test' (x ∷ xs) keeps all =
    let both = and_parts (test x) (list_all test xs) all in
    and_from (test' (g x)) _ (keeps zero x refl both.0) (all-kept g test test' xs (λ n. keeps (suc n)) both.1)

few-mapped : {A B : Type 0} (g : A → B) (xs : List A) → few (map g xs) ≡ few xs
few-mapped g xs = ap (λ n. nat_le n most) (length-map xs g)

-- as many parts
abbrev SameCounts : Term → Type 0
SameCounts t = counts_fit (unguarded t) ≡ counts_fit t

option-counts : (o : Option Term) → WhereThere SameCounts o → option_counts (unguarded_option o) ≡ option_counts o
option-counts None h = refl
option-counts (Some t) h = h t refl

seq-counts : (s : Seq) → InSeq SameCounts s
    → (counts_fit (unguarded s.elem) && option_counts (unguarded_option s.sep) && option_counts (unguarded_option s.stop))
    ≡ (counts_fit s.elem && option_counts s.sep && option_counts s.stop)
seq-counts s h = rw (h.elem, option-counts s.sep h.sep, option-counts s.stop h.stop) refl

count-forms : EachForm SameCounts
count-forms = record {
  of_unit = ap counts_fit unguarded-Unit;
  of_base = λ base args. ap counts_fit (unguarded-Base base args);
  of_lit = λ literal. ap counts_fit (unguarded-Lit literal);
  of_eor = ap counts_fit unguarded-Eor;
  of_struct = λ parts h. ap counts_fit (unguarded-Struct parts) ∙ counts-Struct (map unguarded_part parts)
      ∙ ap (λ front. front && list_all (λ (part : Part). counts_fit part.term) (map unguarded_part parts)) (few-mapped unguarded_part parts)
      ∙ ap (λ rest. few parts && rest) (all-mapped unguarded_part (λ (part : Part). counts_fit part.term) parts h) ∙ sym (counts-Struct parts);
  of_alt = λ arms h. ap counts_fit (unguarded-Alt arms) ∙ counts-Alt (map unguarded_arm arms)
      ∙ ap (λ front. front && list_all (λ (arm : Arm). counts_fit arm.term) (map unguarded_arm arms)) (few-mapped unguarded_arm arms)
      ∙ ap (λ rest. few arms && rest) (all-mapped unguarded_arm (λ (arm : Arm). counts_fit arm.term) arms h) ∙ sym (counts-Alt arms);
  of_switch = λ e cases h. ap counts_fit (unguarded-Switch e cases) ∙ counts-Switch e (map unguarded_case cases)
      ∙ ap (λ front. front && list_all (λ (case : Case). counts_fit case.arm.term) (map unguarded_case cases)) (few-mapped unguarded_case cases)
      ∙ ap (λ rest. few cases && rest) (all-mapped unguarded_case (λ (case : Case). counts_fit case.arm.term) cases h) ∙ sym (counts-Switch e cases);
  of_guard = λ inner binder condition h. ap counts_fit (unguarded-Guard inner binder condition) ∙ h ∙ sym (counts-Guard inner binder condition);
  of_seq = λ s h. ap counts_fit (unguarded-Seq s) ∙ counts-Seq (unguarded_seq s) ∙ seq-counts s h ∙ sym (counts-Seq s);
  of_call = λ number args. ap counts_fit (unguarded-Call number args);
  of_compute = λ e form. ap counts_fit (unguarded-Compute e form);
  of_absorb = λ inner h. ap counts_fit (unguarded-Absorb inner) ∙ counts-Absorb (unguarded inner) ∙ h ∙ sym (counts-Absorb inner);
  of_scan = λ inner h. ap counts_fit (unguarded-Scan inner) ∙ counts-Scan (unguarded inner) ∙ h ∙ sym (counts-Scan inner);
}

same-counts : (t : Term) → counts_fit (unguarded t) ≡ counts_fit t
same-counts t = each-term SameCounts count-forms t

-- what terms speak of is there, where it was
module _ (names : ℕ) (arities : List ℕ) where
  abbrev StaysIn : Term → Type 0
  StaysIn t = (scope : List ℕ) → in_scope names arities t scope ≡ true → in_scope names arities (unguarded t) scope ≡ true

  -- the same term otherwise written
  stays-as : (t : Term) (made : Term) → unguarded t ≡ made → (scope : List ℕ) → in_scope names arities made scope ≡ true → in_scope names arities (unguarded t) scope ≡ true
  stays-as t made is scope h = ap (λ t. in_scope names arities t scope) is ∙ h

  parts-stay : (parts : List Part) → EachPart StaysIn parts → (scope : List ℕ) → parts_in (map (binding_of names arities) parts) scope ≡ true
      → parts_in (map (binding_of names arities) (map unguarded_part parts)) scope ≡ true
  parts-stay [] h scope all = refl
  parts-stay (part ∷ parts) h scope all =
      let both = and_parts (in_scope names arities part.term scope) (parts_in (map (binding_of names arities) parts) (bind_name part.name scope)) all in
      and_from (in_scope names arities (unguarded part.term) scope) _ (h zero part refl scope both.0) (parts-stay parts (λ n. h (suc n)) (bind_name part.name scope) both.1)

  arm-stays : (arm : Arm) → StaysIn arm.term → (scope : List ℕ) → arm_in names arities arm scope ≡ true → arm_in names arities (unguarded_arm arm) scope ≡ true
  arm-stays arm h scope all =
      let both = and_parts (nat_lt arm.name names) (in_scope names arities arm.term scope) all in
      and_from (nat_lt arm.name names) _ both.0 (h scope both.1)

  option-stays : (o : Option Term) → WhereThere StaysIn o → (scope : List ℕ) → option_term_in names arities o scope ≡ true
      → option_term_in names arities (unguarded_option o) scope ≡ true
  option-stays None h scope all = refl
  option-stays (Some t) h scope all = h t refl scope all

  seq-stays : (s : Seq) → InSeq StaysIn s → (scope : List ℕ) → seq_in names arities s scope ≡ true → seq_in names arities (unguarded_seq s) scope ≡ true
  seq-stays s h scope all =
      let last = option_in_scope names s.last (s.elts ∷ scope) in
      let size = option_in_scope names s.size scope in
      let elts = nat_lt s.elts names in
      let stop = option_term_in names arities s.stop scope in
      let sep = option_term_in names arities s.sep scope in
      let elem = in_scope names arities s.elem scope in
      let five = and_parts (elem && sep && stop && elts && size) last all in
      let four = and_parts (elem && sep && stop && elts) size five.0 in
      let three = and_parts (elem && sep && stop) elts four.0 in
      let two = and_parts (elem && sep) stop three.0 in
      let one = and_parts elem sep two.0 in
      and_from _ last
      (and_from _ size
      (and_from _ elts
      (and_from _ (option_term_in names arities (unguarded_option s.stop) scope)
      (and_from (in_scope names arities (unguarded s.elem) scope) (option_term_in names arities (unguarded_option s.sep) scope) (h.elem scope one.0) (option-stays s.sep h.sep scope one.1))
      (option-stays s.stop h.stop scope two.1)) three.1) four.1) five.1

  scope-forms : EachForm StaysIn
  scope-forms = record {
    of_unit = λ scope all. stays-as _ _ unguarded-Unit scope all;
    of_base = λ base args scope all. stays-as _ _ (unguarded-Base base args) scope all;
    of_lit = λ literal scope all. stays-as _ _ (unguarded-Lit literal) scope all;
    of_eor = λ scope all. stays-as _ _ unguarded-Eor scope all;
    of_struct = λ parts h scope all.
        let both = and_parts (list_all (λ (part : Part). name_there names part.name) parts) (parts_in (map (binding_of names arities) parts) scope) (sym (in-Struct names arities parts scope) ∙ all) in
        stays-as _ _ (unguarded-Struct parts) scope (in-Struct names arities (map unguarded_part parts) scope
        ∙ and_from _ _ (all-mapped unguarded_part (λ (part : Part). name_there names part.name) parts (λ n part there. refl) ∙ both.0) (parts-stay parts h scope both.1));
    of_alt = λ arms h scope all.
        stays-as _ _ (unguarded-Alt arms) scope (in-Alt names arities (map unguarded_arm arms) scope
        ∙ all-kept unguarded_arm (λ arm. arm_in names arities arm scope) (λ arm. arm_in names arities arm scope) arms (λ n arm there one. arm-stays arm (h n arm there) scope one)
        (sym (in-Alt names arities arms scope) ∙ all));
    of_switch = λ e cases h scope all.
        let both = and_parts (expr_in_scope names e scope) (list_all (λ case. case_in names arities case scope) cases) (sym (in-Switch names arities e cases scope) ∙ all) in
        stays-as _ _ (unguarded-Switch e cases) scope (in-Switch names arities e (map unguarded_case cases) scope
        ∙ and_from _ _ both.0 (all-kept unguarded_case (λ case. case_in names arities case scope) (λ case. case_in names arities case scope) cases
        (λ n case there one. arm-stays case.arm (h n case there) scope one) both.1));
    of_guard = λ inner binder condition h scope all.
        let both = and_parts (in_scope names arities inner scope && nat_lt binder names) (expr_in_scope names condition (binder ∷ scope)) (sym (in-Guard names arities inner binder condition scope) ∙ all) in
        let first = and_parts (in_scope names arities inner scope) (nat_lt binder names) both.0 in
        stays-as _ _ (unguarded-Guard inner binder condition) scope (h scope first.0);
    of_seq = λ s h scope all.
        stays-as _ _ (unguarded-Seq s) scope (in-Seq names arities (unguarded_seq s) scope ∙ seq-stays s h scope (sym (in-Seq names arities s scope) ∙ all));
    of_call = λ number args scope all. stays-as _ _ (unguarded-Call number args) scope all;
    of_compute = λ e form scope all. stays-as _ _ (unguarded-Compute e form) scope all;
    of_absorb = λ inner h scope all.
        stays-as _ _ (unguarded-Absorb inner) scope (in-Absorb names arities (unguarded inner) scope ∙ h scope (sym (in-Absorb names arities inner scope) ∙ all));
    of_scan = λ inner h scope all.
        stays-as _ _ (unguarded-Scan inner) scope (in-Scan names arities (unguarded inner) scope ∙ h scope (sym (in-Scan names arities inner scope) ∙ all));
  }

  stays-in : (t : Term) → StaysIn t
  stays-in t = each-term StaysIn scope-forms t

  -- a body whose constraints are kept or not
  body-stays : (check : Bool) (t : Term) (scope : List ℕ) → in_scope names arities t scope ≡ true → in_scope names arities (if check then t else unguarded t) scope ≡ true
  body-stays true t scope all = all
  body-stays false t scope all = stays-in t scope all

  decl-stays : (mode : Mode) (decl : Decl) → decl_in_scope names arities decl ≡ true → decl_in_scope names arities (masked_decl mode decl) ≡ true
  decl-stays mode decl all =
      let both = and_parts (nat_lt decl.name names && list_all (λ name. nat_lt name names) decl.params) (in_scope names arities decl.body decl.params) all in
      and_from (nat_lt decl.name names && list_all (λ name. nat_lt name names) decl.params) _ both.0 (body-stays (checks mode) decl.body decl.params both.1)

body-counts : (check : Bool) (t : Term) → counts_fit (if check then t else unguarded t) ≡ counts_fit t
body-counts true t = refl
body-counts false t = same-counts t

decl-counts : (mode : Mode) (decl : Decl) → decl_counts (masked_decl mode decl) ≡ decl_counts decl
decl-counts mode decl = ap (λ rest. few decl.params && rest) (body-counts (checks mode) decl.body)

module _ (m : Contents) (mask : Mask) where
  abbrev mode_of : Decl → Mode
  mode_of decl = mode_for mask (name_of m decl)

  abbrev made : Decl → Decl
  made decl = masked_decl (mode_of decl) decl

  same-arities : (decls : List Decl) → arities_of (masked_decls m.names mask decls) ≡ arities_of decls
  same-arities [] = refl
  same-arities (decl ∷ decls) = ap (λ rest. length decl.params ∷ rest) (same-arities decls)

  counts-stay : (decls : List Decl) → module_counts (masked_decls m.names mask decls) ≡ module_counts decls
  counts-stay decls =
      ap (λ front. front && list_all decl_counts (map made decls)) (few-mapped made decls)
      ∙ ap (λ rest. few decls && rest) (all-mapped made decl_counts decls (λ n decl there. decl-counts (mode_of decl) decl))

  scopes-stay : module_in_scope m.decls m.names m.shape ≡ true → module_in_scope (masked m mask).decls m.names m.shape ≡ true
  scopes-stay all =
      let names = length m.names in
      let arities = arities_of m.decls in
      let both = and_parts (list_all (decl_in_scope names arities) m.decls) (shape_there (length m.decls) m.shape) all in
      let each = all-kept made (decl_in_scope names arities) (decl_in_scope names arities) m.decls (λ n decl there one. decl-stays names arities (mode_of decl) decl one) both.0 in
      and_from _ _ (ap (λ arities. list_all (decl_in_scope names arities) (map made m.decls)) (same-arities m.decls) ∙ each)
      (ap (λ count. shape_there count m.shape) (length-map m.decls made) ∙ both.1)

  pub stays-formed : is_formed m ≡ true → is_formed (masked m mask) ≡ true
  stays-formed all =
      let both = and_parts (module_counts m.decls) (module_in_scope m.decls m.names m.shape) all in
      and_from _ _ (counts-stay m.decls ∙ both.0) (scopes-stay both.1)
