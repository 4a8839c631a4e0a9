-- The code of declarations reads as bodies that begin where these do, and keep values where these have them.
use Rattle.std.proofs.Common.{◌≡◌, ◌∙◌, sym, ap, refl, arith, ℕ, ◌+◌, true, List, [], ◌∷◌, ◌++◌, length, append_assoc, map, Option, None, Some}
use Rattle.std.specs.List.{list_all}
use Rattle.std.proofs.lemmas.Bool.{and_parts}
use Rattle.pads_calc.specs.declared.decl.Decl.{Decl}
use Rattle.pads_calc.specs.declared.term.Arm.{Arm}
use Rattle.pads_calc.specs.declared.term.Case.{Case}
use Rattle.pads_calc.specs.declared.term.Part.{Part}
use Rattle.pads_calc.specs.declared.term.Term.{Term}
use Rattle.pads_calc.specs.declared.term.Term.TheVariants as term
use Rattle.pads_calc.specs.Skeletons.{skeleton_of}
use Rattle.pads_module.specs.Counts.{few, counts_fit, option_counts, decl_counts}
use Rattle.pads_module.proofs.CountRolls.{counts-Guard, counts-Absorb, counts-Scan, few-parts, fit-parts, few-arms, fit-arms, few-cases, fit-cases, fit-elem, fit-sep, fit-stop}
use Rattle.pads_module.proofs.SkeletonRolls.{skeleton-Guard, skeleton-Absorb}
use Rattle.pads_calc.proofs.Induction.{EachForm, WhereThere, each-term}
use Rattle.pads_image.specs.declared.entry.Entry.{Entry}
use Rattle.pads_image.specs.declared.op.Op.TheVariants as op
use Rattle.pads_image.specs.Blocks.{layout}
use Rattle.pads_image.specs.Code.{code_from, entries_from, length_of, code_of, decl_length}
use Rattle.pads_image.specs.Opened.{Body, Decls, Due, Whole}
use Rattle.pads_image.specs.Reads.{code_read, bodies_of, bodies_told}
use Rattle.pads_image.proofs.Layouts.{layout-Unit, layout-Base, layout-Lit, layout-Eor, layout-Guard, layout-Call, layout-Compute, layout-Absorb}
use Rattle.pads_image.proofs.Lengths.{sized}
use Rattle.law_images.proofs.ReadBack.{Back, by-layout, leaf-back, followed-reads, struct-back, scan-back, read-none, read-one, read-then, append-none, all-there}
use Rattle.law_images.proofs.ReadUnions.{alt-back, switch-back}
use Rattle.law_images.proofs.ReadArrays.{seq-back}

-- a term whose counts fit
abbrev ReadsBack : Term → Type 0
ReadsBack t = counts_fit t ≡ true → Back t

there-back : (o : Option Term) → WhereThere ReadsBack o → option_counts o ≡ true → WhereThere Back o
there-back None h fits t there = absurd cc
there-back (Some inner) h fits t there =
    let same : inner ≡ t = cc in
    h t there (ap counts_fit (sym same) ∙ fits)

back-forms : EachForm ReadsBack
back-forms = record {
  of_unit = λ fits. leaf-back op.Unit term.Unit layout-Unit (λ p open_. refl);
  of_base = λ base args fits. leaf-back (op.Base base args) (term.Base base args) (layout-Base base args) (λ p open_. refl);
  of_lit = λ literal fits. leaf-back (op.Lit literal) (term.Lit literal) (layout-Lit literal) (λ p open_. refl);
  of_eor = λ fits. leaf-back op.Eor term.Eor layout-Eor (λ p open_. refl);
  of_struct = λ parts h fits. struct-back parts (few-parts parts fits)
      (λ n part there. h n part there (all-there (λ (part : Part). counts_fit part.term) parts n part (fit-parts parts fits) there));
  of_alt = λ arms h fits. alt-back arms (few-arms arms fits)
      (λ n arm there. h n arm there (all-there (λ (arm : Arm). counts_fit arm.term) arms n arm (fit-arms arms fits) there));
  of_switch = λ e cases h fits. switch-back e cases (few-cases e cases fits)
      (λ n case there. h n case there (all-there (λ (case : Case). counts_fit case.arm.term) cases n case (fit-cases e cases fits) there));
  of_guard = λ inner binder condition h fits.
      let found = h (sym (counts-Guard inner binder condition) ∙ fits) in
      record {
        back = term.Guard found.back binder condition;
        reads = by-layout _ _ (term.Guard found.back binder condition) (layout-Guard inner binder condition)
            (followed-reads (layout inner) found.back (op.Guard binder condition) (term.Guard found.back binder condition) (λ p open_. refl) found.reads);
        skeleton = skeleton-Guard found.back binder condition ∙ found.skeleton ∙ sym (skeleton-Guard inner binder condition);
      };
  of_seq = λ s h fits. seq-back s (record {
    elem = h.elem (fit-elem s fits);
    sep = there-back s.sep h.sep (fit-sep s fits);
    stop = there-back s.stop h.stop (fit-stop s fits);
  });
  of_call = λ number args fits. leaf-back (op.Call number args) (term.Call number args) (layout-Call number args) (λ p open_. refl);
  of_compute = λ e form fits. leaf-back (op.Compute e form) (term.Compute e form) (layout-Compute e form) (λ p open_. refl);
  of_absorb = λ inner h fits.
      let found = h (sym (counts-Absorb inner) ∙ fits) in
      record {
        back = term.Absorb found.back;
        reads = by-layout _ _ (term.Absorb found.back) (layout-Absorb inner)
            (followed-reads (layout inner) found.back op.Absorb (term.Absorb found.back) (λ p open_. refl) found.reads);
        skeleton = skeleton-Absorb found.back ∙ found.skeleton ∙ sym (skeleton-Absorb inner);
      };
  of_scan = λ inner h fits. scan-back inner (h (sym (counts-Scan inner) ∙ fits));
}

pub reads-back : (t : Term) → ReadsBack t
reads-back = each-term ReadsBack back-forms

-- declarations, each read behind the ones before
pub record BodiesBack (decls : List Decl) (p : ℕ) : Type 0 where
  pub backs : List Body
  pub reads : (done : List Body) → code_read p (code_from decls p) (Due (Decls done p ∷ [])) ≡ Some (Due (Decls (done ++ backs) (p + length_of decls) ∷ []))
  pub firsts : map (λ (body : Body). body.first) backs ≡ map (λ (entry : Entry). entry.first) (entries_from decls p)
  pub skeletons : map (λ (body : Body). skeleton_of body.term) backs ≡ map (λ (entry : Entry). entry.skeleton) (entries_from decls p)

decls-back : (decls : List Decl) → list_all decl_counts decls ≡ true → (p : ℕ) → BodiesBack decls p
decls-back [] fits p = record {
  backs = [];
  reads = λ done.
      let none : p ≡ p + 0 = omega arith in
      read-none p (Due (Decls done p ∷ [])) ∙ ap (λ q. Some (Due (Decls done q ∷ []))) none
      ∙ ap (λ done. Some (Due (Decls done (p + 0) ∷ []))) (sym (append-none done));
  firsts = refl;
  skeletons = refl;
}
decls-back (decl ∷ decls) fits p =
    let b = layout decl.body in
    let f = and_parts (decl_counts decl) (list_all decl_counts decls) fits in
    let found = reads-back decl.body (and_parts (few decl.params) (counts_fit decl.body) f.0).1 in
    let body : Body = record { first = p; term = found.back } in
    let later = decls-back decls f.1 (p + decl_length decl) in
    record {
      backs = body ∷ later.backs;
      reads = λ done.
          let rest = code_from decls (p + (b.size + 1)) in
          let whole = Whole found.back (Decls done p ∷ []) in
          let behind : p + length (b.code p) ≡ p + b.size = omega (arith, sized decl.body p) in
          let next : p + b.size + 1 ≡ p + (b.size + 1) = omega arith in
          let last : p + (b.size + 1) + length_of decls ≡ p + (b.size + 1 + length_of decls) = omega arith in
          read-then (b.code p) (op.Return ∷ rest) p (p + b.size) (Due (Decls done p ∷ [])) whole behind (found.reads p (Decls done p ∷ []) refl)
          ∙ read-one (p + b.size) op.Return rest whole (Due (Decls (done ++ body ∷ []) (p + b.size + 1) ∷ [])) refl
          ∙ ap (λ q. code_read q rest (Due (Decls (done ++ body ∷ []) q ∷ []))) next
          ∙ later.reads (done ++ body ∷ [])
          ∙ ap (λ q. Some (Due (Decls ((done ++ body ∷ []) ++ later.backs) q ∷ []))) last
          ∙ ap (λ done. Some (Due (Decls done (p + (b.size + 1 + length_of decls)) ∷ []))) (append_assoc done (body ∷ []) later.backs);
      firsts = ap (λ firsts. p ∷ firsts) later.firsts;
      skeletons = ap (λ s. s ∷ map (λ (body : Body). skeleton_of body.term) later.backs) found.skeleton ∙ ap (λ rest. skeleton_of decl.body ∷ rest) later.skeletons;
    }

-- from address 0 on
module _ (decls : List Decl) (fits : list_all decl_counts decls ≡ true) where
  pub bodies-back : BodiesBack decls 0
  bodies-back = decls-back decls fits 0

  pub bodies-are : bodies_of (code_of decls) ≡ Some bodies-back.backs
  bodies-are = ap bodies_told (bodies-back.reads [])
