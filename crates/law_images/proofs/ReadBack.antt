-- How the layout of a term reads back, form by form: as a term that keeps values where that has them. It
-- may differ from that one in the names of branches, which no code has.
use Rattle.std.proofs.Common.{◌≡◌, ◌∙◌, sym, ap, refl, subst, arith, eq-eqb, ℕ, zero, suc, ◌+◌, Bool, true, false, ◌&&◌, nat_eq, nat_le, List, [], ◌∷◌, ◌++◌, length, append_assoc, map, Option, None, Some, slice_get}
use Rattle.std.specs.List.{list_all}
use Rattle.std.proofs.lemmas.Bool.{and_parts}
use Rattle.pads_erase.specs.declared.skeleton.Skeleton.TheVariants as skeleton
use Rattle.pads_calc.specs.declared.term.Part.{Part}
use Rattle.pads_calc.specs.declared.term.Term.{Term}
use Rattle.pads_calc.specs.declared.term.Term.TheVariants as term
use Rattle.pads_calc.specs.Skeletons.{skeleton_of}
use Rattle.pads_module.specs.Counts.{few, most}
use Rattle.pads_module.proofs.SkeletonRolls.{skeleton-Struct, skeleton-Scan}
use Rattle.pads_calc.proofs.Induction.{EachPart}
use Rattle.pads_image.specs.declared.op.Op.{Op}
use Rattle.pads_image.specs.declared.op.Op.TheVariants as op
use Rattle.pads_image.specs.Blocks.{Block, bindings_of, single, followed, parts_code, named, struct_block, scan_block, layout, part_layout}
use Rattle.pads_image.specs.Opened.{Opened, Struct, Scan, State, Due, Whole}
use Rattle.pads_image.specs.Reads.{code_read, instruction_read, go_on, takes_term, leaf, named_parts, only_if}
use Rattle.pads_image.proofs.Layouts.{layout-Struct, layout-Scan}
use Rattle.pads_image.proofs.Lengths.{sized}

pub read-none : (p : ℕ) (state : State) → code_read p [] state ≡ Some state
unfolding code_read
read-none p state = refl

pub read-cons : (p : ℕ) (instruction : Op) (code : List Op) (state : State) → code_read p (instruction ∷ code) state
    ≡ go_on (instruction_read p instruction state) (λ next. code_read (p + 1) code next)
unfolding code_read
read-cons p instruction code state = refl

-- some code, and then more
pub read-append : (xs ys : List Op) (p : ℕ) (state : State) → code_read p (xs ++ ys) state ≡ go_on (code_read p xs state) (λ next. code_read (p + length xs) ys next)
read-append [] ys p state =
    let none : p ≡ p + 0 = omega arith in
    ap (λ q. code_read q ys state) none ∙ ap (λ o. go_on o (λ next. code_read (p + 0) ys next)) (sym (read-none p state))
read-append (x ∷ xs) ys p state =
    read-cons p x (xs ++ ys) state ∙ on (λ next. read-append xs ys (p + 1) next) (instruction_read p x state)
    ∙ ap (λ o. go_on o (λ next. code_read (p + suc (length xs)) ys next)) (sym (read-cons p x xs state))
  where
    on : ((next : State) → code_read (p + 1) (xs ++ ys) next ≡ go_on (code_read (p + 1) xs next) (λ next. code_read (p + 1 + length xs) ys next)) → (o : Option State)
        → go_on o (λ next. code_read (p + 1) (xs ++ ys) next)
        ≡ go_on (go_on o (λ next. code_read (p + 1) xs next)) (λ next. code_read (p + suc (length xs)) ys next)
    on rest None = refl
    on rest (Some next) =
        let same : p + 1 + length xs ≡ p + suc (length xs) = omega arith in
        rest next ∙ ap (λ q. go_on (code_read (p + 1) xs next) (λ next. code_read q ys next)) same

pub read-then : (xs ys : List Op) (p q : ℕ) (state next : State) → p + length xs ≡ q → code_read p xs state ≡ Some next → code_read p (xs ++ ys) state ≡ code_read q ys next
read-then xs ys p q state next same is =
    read-append xs ys p state ∙ ap (λ o. go_on o (λ next. code_read (p + length xs) ys next)) is ∙ ap (λ q. code_read q ys next) same

-- one instruction
pub read-one : (p : ℕ) (instruction : Op) (rest : List Op) (state next : State) → instruction_read p instruction state ≡ Some next →
    code_read p (instruction ∷ rest) state ≡ code_read (p + 1) rest next
read-one p instruction rest state next is = read-cons p instruction rest state ∙ ap (λ o. go_on o (λ next. code_read (p + 1) rest next)) is

abbrev pub ReadsAs : Block → Term → Type 0
ReadsAs b t = (p : ℕ) (open_ : List Opened) → takes_term open_ ≡ true → code_read p (b.code p) (Due open_) ≡ Some (Whole t open_)

-- a term as which the layout of a term reads
pub record Back (t : Term) : Type 0 where
  pub back : Term
  pub reads : ReadsAs (layout t) back
  pub skeleton : skeleton_of back ≡ skeleton_of t

pub by-layout : (t : Term) (b : Block) (back : Term) → layout t ≡ b → ReadsAs b back → ReadsAs (layout t) back
by-layout t b back is h = let P : Block → Type 0 = λ b. ReadsAs b back in subst P (sym is) h

leaf-reads : (instruction : Op) (t : Term) → ((p : ℕ) (open_ : List Opened) → instruction_read p instruction (Due open_) ≡ leaf t (Due open_)) → ReadsAs (single instruction) t
leaf-reads instruction t is p open_ takes =
    read-one p instruction [] (Due open_) (Whole t open_) (is p open_ ∙ ap (λ b. only_if b (Whole t open_)) takes)
    ∙ read-none (p + 1) (Whole t open_)

-- a term of one instruction
pub leaf-back : (instruction : Op) (t : Term) → layout t ≡ single instruction → ((p : ℕ) (open_ : List Opened) → instruction_read p instruction (Due open_) ≡ leaf t (Due open_)) → Back t
leaf-back instruction t is reads = record { back = t; reads = by-layout t _ t is (leaf-reads instruction t reads); skeleton = refl }

-- a term with one instruction behind it
pub followed-reads : (b : Block) (inner : Term) (instruction : Op) (t : Term) → ((p : ℕ) (open_ : List Opened) → instruction_read p instruction (Whole inner open_) ≡ Some (Whole t open_))
    → ReadsAs b inner → ReadsAs (followed b instruction) t
followed-reads b inner instruction t is h p open_ takes =
    let q = p + length (b.code p) in
    read-then (b.code p) (instruction ∷ []) p q (Due open_) (Whole inner open_) refl (h p open_ takes)
    ∙ read-one q instruction [] (Whole inner open_) (Whole t open_) (is q open_)
    ∙ read-none (q + 1) (Whole t open_)

pub append-none : {A : Type 0} (xs : List A) → xs ++ [] ≡ xs
append-none [] = refl
append-none (x ∷ xs) = ap (λ rest. x ∷ rest) (append-none xs)

pub same-number : (n : ℕ) → nat_eq n n ≡ true
same-number n = eq-eqb n n refl

pub never : {A : Type 0} → false ≡ true → A
never h = absurd cc

pub all-there : {A : Type 0} (f : A → Bool) (xs : List A) (n : ℕ) (x : A) → list_all f xs ≡ true → slice_get xs n ≡ Some x → f x ≡ true
all-there f [] n x all there = cc
all-there f (y ∷ xs) zero x all there = let e : x ≡ y = cc in ap f e ∙ (and_parts (f y) (list_all f xs) all).0
all-there f (y ∷ xs) (suc n) x all there = all-there f xs n x (and_parts (f y) (list_all f xs) all).1 there

-- parts, each read behind the ones before
record PartsBack (parts : List Part) : Type 0 where
  backs : List Part
  reads : (p : ℕ) (done : List Part) (more : List Opened)
      → code_read p (parts_code (map part_layout parts) p) (Due (Struct done ∷ more)) ≡ Some (Due (Struct (done ++ backs) ∷ more))
  names : named_parts backs ≡ named (map part_layout parts)
  count : length backs ≡ length parts
  skeletons : map (λ (part : Part). skeleton_of part.term) backs ≡ map (λ (part : Part). skeleton_of part.term) parts

parts-back : (parts : List Part) → EachPart Back parts → PartsBack parts
parts-back [] h = record {
  backs = [];
  reads = λ p done more. read-none p (Due (Struct done ∷ more)) ∙ ap (λ parts. Some (Due (Struct parts ∷ more))) (sym (append-none done));
  names = refl;
  count = refl;
  skeletons = refl;
}
parts-back (part ∷ parts) h =
    let b = layout part.term in
    let first = h 0 part refl in
    let later = parts-back parts (λ n part there. h (suc n) part there) in
    let back : Part = record { name = part.name; term = first.back } in
    record {
      backs = back ∷ later.backs;
      reads = λ p done more.
          let rest = parts_code (map part_layout parts) (p + b.size + 1) in
          let whole = Whole first.back (Struct done ∷ more) in
          let behind : p + length (b.code p) ≡ p + b.size = omega (arith, sized part.term p) in
          read-then (b.code p) (op.Part part.name ∷ rest) p (p + b.size) (Due (Struct done ∷ more)) whole behind (first.reads p (Struct done ∷ more) refl)
          ∙ read-one (p + b.size) (op.Part part.name) rest whole (Due (Struct (done ++ back ∷ []) ∷ more)) refl
          ∙ later.reads (p + b.size + 1) (done ++ back ∷ []) more
          ∙ ap (λ parts. Some (Due (Struct parts ∷ more))) (append_assoc done (back ∷ []) later.backs);
      names = ap (λ n. bindings_of part.name + n) later.names;
      count = ap (λ n. suc n) later.count;
      skeletons = ap (λ s. s ∷ map (λ (part : Part). skeleton_of part.term) later.backs) first.skeleton ∙ ap (λ rest. skeleton_of part.term ∷ rest) later.skeletons;
    }

struct-reads : (parts : List Part) → few parts ≡ true → (found : PartsBack parts) → ReadsAs (struct_block (map part_layout parts)) (term.Struct found.backs)
struct-reads parts fits found p open_ takes =
    let code = parts_code (map part_layout parts) (p + 1) in
    let m = named (map part_layout parts) in
    let q = p + 1 + length code in
    let whole = Whole (term.Struct found.backs) open_ in
    read-one p op.Open (code ++ op.Close m ∷ []) (Due open_) (Due (Struct [] ∷ open_)) (ap (λ b. only_if b (Due (Struct [] ∷ open_))) takes)
    ∙ read-then code (op.Close m ∷ []) (p + 1) q (Due (Struct [] ∷ open_)) (Due (Struct found.backs ∷ open_)) refl (found.reads (p + 1) [] open_)
    ∙ read-one q (op.Close m) [] (Due (Struct found.backs ∷ open_)) whole
    (ap (λ n. only_if (few found.backs && nat_eq m n) whole) found.names
    ∙ ap (λ n. only_if (nat_le n most && nat_eq m m) whole) found.count
    ∙ ap (λ b. only_if (b && nat_eq m m) whole) fits
    ∙ ap (λ b. only_if b whole) (same-number m))
    ∙ read-none (q + 1) whole

pub struct-back : (parts : List Part) → few parts ≡ true → EachPart Back parts → Back (term.Struct parts)
struct-back parts fits h =
    let found = parts-back parts h in
    record {
      back = term.Struct found.backs;
      reads = by-layout _ _ (term.Struct found.backs) (layout-Struct parts) (struct-reads parts fits found);
      skeleton = skeleton-Struct found.backs ∙ ap (λ kids. skeleton.List kids) found.skeletons ∙ sym (skeleton-Struct parts);
    }

scan-reads : (b : Block) (inner : Term) → ReadsAs b inner → ReadsAs (scan_block b) (term.Scan inner)
scan-reads b inner h p open_ takes =
    let code = b.code (p + 1) in
    let q = p + 1 + length code in
    let whole = Whole (term.Scan inner) open_ in
    read-one p op.ScanFrom (code ++ op.ScanOn (p + 1) ∷ []) (Due open_) (Due (Scan (p + 1) ∷ open_)) (ap (λ b. only_if b (Due (Scan (p + 1) ∷ open_))) takes)
    ∙ read-then code (op.ScanOn (p + 1) ∷ []) (p + 1) q (Due (Scan (p + 1) ∷ open_)) (Whole inner (Scan (p + 1) ∷ open_)) refl (h (p + 1) (Scan (p + 1) ∷ open_) refl)
    ∙ read-one q (op.ScanOn (p + 1)) [] (Whole inner (Scan (p + 1) ∷ open_)) whole (ap (λ b. only_if b whole) (same-number (p + 1)))
    ∙ read-none (q + 1) whole

pub scan-back : (inner : Term) → Back inner → Back (term.Scan inner)
scan-back inner h = record {
  back = term.Scan h.back;
  reads = by-layout _ _ (term.Scan h.back) (layout-Scan inner) (scan-reads (layout inner) h.back h.reads);
  skeleton = skeleton-Scan h.back ∙ h.skeleton ∙ sym (skeleton-Scan inner);
}
