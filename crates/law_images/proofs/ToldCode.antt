-- Code that is read adds itself to what was read, and so the code of bodies is these bodies' code.
use Rattle.std.proofs.Common.{◌≡◌, ◌∙◌, sym, ap, refl, subst, arith, ℕ, ◌+◌, List, [], ◌∷◌, ◌++◌, length, length-append, append_assoc, Option, None, Some}
use Rattle.pads_calc.specs.declared.term.Term.TheVariants as term
use Rattle.pads_image.specs.declared.op.Op.{Op}
use Rattle.pads_image.specs.declared.op.Op.TheVariants as op
use Rattle.pads_image.specs.Opened.{Body, Decls, Struct, Scan, Sized, State, Due, Whole}
use Rattle.pads_image.specs.Reads.{instruction_read, go_on, code_read, bodies_told, bodies_of}
use Rattle.pads_image.proofs.Layouts.{layout-Unit, layout-Base, layout-Lit, layout-Eor, layout-Guard, layout-Call, layout-Compute, layout-Absorb}
use Rattle.law_images.proofs.ReadBack.{read-none, read-cons, append-none}
use Rattle.law_images.proofs.Shown.{bodies_code, Begin, state_code, PlacedIn, Appends, Tells, untold}
use Rattle.law_images.proofs.ToldForms.{leaf-tells, begin-tells, wrap-tells, part-tells, close-tells, try-tells, none-tells, switch-tells, arm-tells, scan-tells, return-tells}
use Rattle.law_images.proofs.ToldArrays.{full-tells, mark-tells, stop-tells, edge-tells, turn-tells, sep-tells, elem-tells, shut-tells}

instruction-tells : (p : ℕ) (instruction : Op) → Tells p instruction (instruction_read p instruction)
instruction-tells p op.Unit = leaf-tells p op.Unit term.Unit layout-Unit
instruction-tells p (op.Lit literal) = leaf-tells p (op.Lit literal) (term.Lit literal) (layout-Lit literal)
instruction-tells p op.Eor = leaf-tells p op.Eor term.Eor layout-Eor
instruction-tells p (op.Base base args) = leaf-tells p (op.Base base args) (term.Base base args) (layout-Base base args)
instruction-tells p (op.Compute e form) = leaf-tells p (op.Compute e form) (term.Compute e form) (layout-Compute e form)
instruction-tells p op.Absorb = wrap-tells p op.Absorb (λ inner. term.Absorb inner) layout-Absorb
instruction-tells p (op.Guard binder condition) =
    wrap-tells p (op.Guard binder condition) (λ inner. term.Guard inner binder condition) (λ inner. layout-Guard inner binder condition)
instruction-tells p op.Open = begin-tells p op.Open (Struct []) (λ q. refl) tt
instruction-tells p (op.Part name) = part-tells p name
instruction-tells p (op.Close m) = close-tells p m
instruction-tells p op.Mark = mark-tells p
instruction-tells p op.ScanFrom = begin-tells p op.ScanFrom (Scan (p + 1)) (λ q. refl) refl
instruction-tells p (op.Try number to) = try-tells p number to
instruction-tells p op.NoArm = none-tells p
instruction-tells p (op.Switch e left end) = switch-tells p e left end
instruction-tells p (op.Arm number to) = arm-tells p number to
instruction-tells p (op.Size size end) = begin-tells p (op.Size size end) (Sized (p + 1) size end) (λ q. refl) refl
instruction-tells p (op.Full last elts to) = full-tells p last elts to
instruction-tells p (op.Stop to) = stop-tells p to
instruction-tells p (op.Edge to) = edge-tells p to
instruction-tells p (op.Turn to) = turn-tells p to
instruction-tells p (op.Sep to) = sep-tells p to
instruction-tells p (op.Elem to again) = elem-tells p to again
instruction-tells p op.Shut = shut-tells p
instruction-tells p (op.ScanOn to) = scan-tells p to
instruction-tells p (op.Call number args) = leaf-tells p (op.Call number args) (term.Call number args) (layout-Call number args)
instruction-tells p op.Return = return-tells p

-- code that adds itself
record Told (code : List Op) (state next : State) : Type 0 where
  added : state_code next ≡ state_code state ++ code
  placed : PlacedIn next

code-tells : (code : List Op) (p : ℕ) (state next : State) → p ≡ length (state_code state) → PlacedIn state → code_read p code state ≡ Some next → Told code state next
code-tells [] p state next at_ placed read =
    let found : Some state ≡ Some next = sym (read-none p state) ∙ read in
    let same : state ≡ next = cc in
    subst (λ next. Told [] state next) same (record { added = sym (append-none (state_code state)); placed = placed })
code-tells (instruction ∷ code) p state next at_ placed read =
    on (λ middle at_ placed read. code-tells code (p + 1) middle next at_ placed read) (instruction_read p instruction state)
    (λ middle is. instruction-tells p instruction state middle at_ placed is) (sym (read-cons p instruction code state) ∙ read)
  where
    on : ((middle : State) → p + 1 ≡ length (state_code middle) → PlacedIn middle → code_read (p + 1) code middle ≡ Some next → Told code middle next)
        → (o : Option State) → ((middle : State) → o ≡ Some middle → Appends instruction state middle)
        → go_on o (λ next. code_read (p + 1) code next) ≡ Some next → Told (instruction ∷ code) state next
    on rest None first read = untold next read
    on rest (Some middle) first read =
        let one = first middle refl in
        let behind : p + 1 ≡ length (state_code middle) = omega (arith, at_, ap length one.code, length-append (state_code state) (instruction ∷ [])) in
        let more = rest middle behind one.placed read in
        record {
          added = more.added ∙ ap (λ front. front ++ code) one.code ∙ append_assoc (state_code state) (instruction ∷ []) code;
          placed = more.placed;
        }

-- a reading that ends with bodies ends where no construct is open
only-bodies : (o : Option State) (bodies : List Body) → bodies_told o ≡ Some bodies → (first : ℕ) × (o ≡ Some (Due (Decls bodies first ∷ [])))
only-bodies None bodies is = absurd cc
only-bodies (Some (Whole t open_)) bodies is = absurd cc
only-bodies (Some (Due [])) bodies is = absurd cc
only-bodies (Some (Due (Decls done first ∷ []))) bodies is =
    let same : done ≡ bodies = cc in
    (first, ap (λ done. Some (Due (Decls done first ∷ []))) same)
only-bodies (Some (Due (construct ∷ more))) bodies is = absurd cc

-- code that reads as bodies is theirs, and they begin where they say
pub bodies-are : (code : List Op) (bodies : List Body) → bodies_of code ≡ Some bodies → (bodies_code bodies 0 ≡ code) × Begin bodies 0
bodies-are code bodies is =
    let start = Due (Decls [] 0 ∷ []) in
    let end = only-bodies (code_read 0 code start) bodies is in
    let found = code-tells code 0 start (Due (Decls bodies end.0 ∷ [])) refl ((refl, tt), tt) end.1 in
    (found.added, found.placed.0.1)
