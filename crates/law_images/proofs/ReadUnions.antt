-- How the layouts of unions read back.
use Rattle.std.proofs.Common.{◌≡◌, ◌∙◌, sym, ap, refl, arith, eq-eqb, ℕ, suc, ◌+◌, true, ◌&&◌, nat_eq, nat_le, List, [], ◌∷◌, ◌++◌, length, length-append, append_assoc, map, None, Some, if◌then◌else◌}
use Rattle.std.specs.List.{list_all}
use Rattle.pads_expr.specs.declared.expr.Expr.{Expr}
use Rattle.pads_erase.specs.declared.skeleton.Skeleton.TheVariants as skeleton
use Rattle.pads_calc.specs.declared.term.Arm.{Arm}
use Rattle.pads_calc.specs.declared.term.Case.{Case}
use Rattle.pads_calc.specs.declared.term.Term.TheVariants as term
use Rattle.pads_calc.specs.Skeletons.{skeleton_of}
use Rattle.pads_module.specs.Counts.{few, most}
use Rattle.pads_module.proofs.SkeletonRolls.{skeleton-Alt, skeleton-Switch}
use Rattle.pads_calc.proofs.Induction.{EachArm, EachCase}
use Rattle.pads_image.specs.declared.op.Op.TheVariants as op
use Rattle.pads_image.specs.declared.op.Target.{Target}
use Rattle.pads_image.specs.Blocks.{Block, arms_size, arms_code, alt_block, blocks, targets, switch_block, layout, case_layout}
use Rattle.pads_image.specs.Opened.{Tried, Opened, Decls, Struct, Alt, Switch, Scan, Sized, Filled, Stopping, Edged, Separating, Taking, Shutting, State, Due, Whole}
use Rattle.pads_image.specs.Reads.{code_read, go_on, takes_term, mark_read, nameless, arms_of, cases_on, only_if}
use Rattle.pads_image.proofs.Layouts.{layout-Alt, layout-Switch}
use Rattle.pads_image.proofs.Lengths.{sized, arms-sized}
use Rattle.law_images.proofs.ReadBack.{Back, ReadsAs, by-layout, read-none, read-one, read-cons, read-then, append-none, same-number, never}

-- a Mark begins a union wherever a term may begin
mark-begins : (open_ : List Opened) → takes_term open_ ≡ true → mark_read (Due open_) ≡ Some (Due (Alt [] ∷ open_))
mark-begins [] takes = never takes
mark-begins (Decls done first ∷ more) takes = refl
mark-begins (Struct parts ∷ more) takes = refl
mark-begins (Alt arms ∷ more) takes = refl
mark-begins (Switch e left end next cases ∷ more) takes = refl
mark-begins (Scan inner ∷ more) takes = refl
mark-begins (Sized full size end ∷ more) takes = never takes
mark-begins (Filled head stop ∷ more) takes = never takes
mark-begins (Stopping head ∷ more) takes = refl
mark-begins (Edged head stop ∷ more) takes = never takes
mark-begins (Separating head stop elem ∷ more) takes = refl
mark-begins (Taking head stop sep ∷ more) takes = refl
mark-begins (Shutting head stop sep elem ∷ more) takes = never takes

abbrev arm_block_of : Arm → Block
arm_block_of arm = layout arm.term

-- branches that name one end
abbrev tries : ℕ → List Arm → List Tried
tries end arms = map (λ arm. record { arm = arm; to = end }) arms

tries-arms : (end : ℕ) (arms : List Arm) → arms_of (tries end arms) ≡ arms
tries-arms end [] = refl
tries-arms end (arm ∷ arms) = ap (λ rest. arm ∷ rest) (tries-arms end arms)

tries-count : (end : ℕ) (arms : List Arm) → length (tries end arms) ≡ length arms
tries-count end [] = refl
tries-count end (arm ∷ arms) = ap (λ n. suc n) (tries-count end arms)

tries-end : (end q : ℕ) (arms : List Arm) → nat_eq end q ≡ true → list_all (λ (tried : Tried). nat_eq tried.to q) (tries end arms) ≡ true
tries-end end q [] same = refl
tries-end end q (arm ∷ arms) same = ap (λ b. b && list_all (λ (tried : Tried). nat_eq tried.to q) (tries end arms)) same ∙ tries-end end q arms same

-- branches, each read behind the ones before
record ArmsBack (arms : List Arm) : Type 0 where
  backs : List Arm
  reads : (end p number : ℕ) (done : List Tried) (more : List Opened) → number ≡ length done
      → code_read p (arms_code (λ number. op.Try number end) (map arm_block_of arms) number p) (Due (Alt done ∷ more))
      ≡ Some (Due (Alt (done ++ tries end backs) ∷ more))
  count : length backs ≡ length arms
  skeletons : map (λ (arm : Arm). skeleton_of arm.term) backs ≡ map (λ (arm : Arm). skeleton_of arm.term) arms

arms-back : (arms : List Arm) → EachArm Back arms → ArmsBack arms
arms-back [] h = record {
  backs = [];
  reads = λ end p number done more counted. read-none p (Due (Alt done ∷ more)) ∙ ap (λ arms. Some (Due (Alt arms ∷ more))) (sym (append-none done));
  count = refl;
  skeletons = refl;
}
arms-back (arm ∷ arms) h =
    let b = layout arm.term in
    let first = h 0 arm refl in
    let later = arms-back arms (λ n arm there. h (suc n) arm there) in
    record {
      backs = nameless first.back ∷ later.backs;
      reads = λ end p number done more counted.
          let rest = arms_code (λ number. op.Try number end) (map arm_block_of arms) (number + 1) (p + b.size + 1) in
          let whole = Whole first.back (Alt done ∷ more) in
          let tried : Tried = record { arm = nameless first.back; to = end } in
          let next = Due (Alt (done ++ tried ∷ []) ∷ more) in
          let behind : p + length (b.code p) ≡ p + b.size = omega (arith, sized arm.term p) in
          let one_more : number + 1 ≡ length (done ++ tried ∷ []) = omega (arith, length-append done (tried ∷ []), counted) in
          read-then (b.code p) (op.Try number end ∷ rest) p (p + b.size) (Due (Alt done ∷ more)) whole behind (first.reads p (Alt done ∷ more) refl)
          ∙ read-one (p + b.size) (op.Try number end) rest whole next (ap (λ n. only_if (nat_eq number n) next) (sym counted) ∙ ap (λ b. only_if b next) (same-number number))
          ∙ later.reads end (p + b.size + 1) (number + 1) (done ++ tried ∷ []) more one_more
          ∙ ap (λ arms. Some (Due (Alt arms ∷ more))) (append_assoc done (tried ∷ []) (tries end later.backs));
      count = ap (λ n. suc n) later.count;
      skeletons = ap (λ s. s ∷ map (λ (arm : Arm). skeleton_of arm.term) later.backs) first.skeleton ∙ ap (λ rest. skeleton_of arm.term ∷ rest) later.skeletons;
    }

alt-reads : (arms : List Arm) → few arms ≡ true → (found : ArmsBack arms) → ReadsAs (alt_block (map arm_block_of arms)) (term.Alt found.backs)
alt-reads arms fits found p open_ takes =
    let end = p + (2 + arms_size (map arm_block_of arms)) in
    let code = arms_code (λ number. op.Try number end) (map arm_block_of arms) 0 (p + 1) in
    let q = p + 1 + length code in
    let all = tries end found.backs in
    let last = λ (tried : Tried). nat_eq tried.to (q + 1) in
    let whole = λ (arms : List Arm). Whole (term.Alt arms) open_ in
    let long = arms-sized (λ number. op.Try number end) arms (λ n arm there. sized arm.term) 0 (p + 1) in
    let ends : nat_eq end (q + 1) ≡ true = eq-eqb end (q + 1) (omega (arith, long)) in
    read-one p op.Mark (code ++ op.NoArm ∷ []) (Due open_) (Due (Alt [] ∷ open_)) (mark-begins open_ takes)
    ∙ read-then code (op.NoArm ∷ []) (p + 1) q (Due (Alt [] ∷ open_)) (Due (Alt all ∷ open_)) refl (found.reads end (p + 1) 0 [] open_ refl)
    ∙ read-one q op.NoArm [] (Due (Alt all ∷ open_)) (whole found.backs)
    (ap (λ n. only_if (nat_le n most && list_all last all) (whole (arms_of all))) (tries-count end found.backs ∙ found.count)
    ∙ ap (λ b. only_if (b && list_all last all) (whole (arms_of all))) fits
    ∙ ap (λ b. only_if b (whole (arms_of all))) (tries-end end (q + 1) found.backs ends)
    ∙ ap (λ arms. Some (whole arms)) (tries-arms end found.backs))
    ∙ read-none (q + 1) (whole found.backs)

pub alt-back : (arms : List Arm) → few arms ≡ true → EachArm Back arms → Back (term.Alt arms)
alt-back arms fits h =
    let found = arms-back arms h in
    record {
      back = term.Alt found.backs;
      reads = by-layout _ _ (term.Alt found.backs) (layout-Alt arms) (alt-reads arms fits found);
      skeleton = skeleton-Alt found.backs ∙ ap (λ kids. skeleton.Arms kids) found.skeletons ∙ sym (skeleton-Alt arms);
    }

-- cases, each read behind the ones before, up to the union's end
record CasesBack (cases : List Case) : Type 0 where
  backs : List Case
  reads : (e : Expr) (end p number : ℕ) (done : List Case) (more : List Opened) → number ≡ length done → end ≡ p + arms_size (blocks (map case_layout cases))
      → go_on (cases_on p e (targets (map case_layout cases) p) end p done more)
      (λ state. code_read p (arms_code (λ number. op.Arm number end) (blocks (map case_layout cases)) number p) state)
      ≡ Some (Whole (term.Switch e (done ++ backs)) more)
  skeletons : map (λ (case : Case). skeleton_of case.arm.term) backs ≡ map (λ (case : Case). skeleton_of case.arm.term) cases

cases-back : (cases : List Case) → EachCase Back cases → CasesBack cases
cases-back [] h = record {
  backs = [];
  reads = λ e end p number done more counted ends.
      let here : nat_eq end p ≡ true = eq-eqb end p (omega (arith, ends)) in
      ap (λ b. go_on (only_if b (Whole (term.Switch e done) more)) (λ state. code_read p [] state)) here
      ∙ read-none p (Whole (term.Switch e done) more) ∙ ap (λ cases. Some (Whole (term.Switch e cases) more)) (sym (append-none done));
  skeletons = refl;
}
cases-back (case ∷ cases) h =
    let b = layout case.arm.term in
    let first = h 0 case refl in
    let later = cases-back cases (λ n case there. h (suc n) case there) in
    let back : Case = record { key = case.key; arm = nameless first.back } in
    record {
      backs = back ∷ later.backs;
      reads = λ e end p number done more counted ends.
          let q = p + b.size in
          let rest = arms_code (λ number. op.Arm number end) (blocks (map case_layout cases)) (number + 1) (q + 1) in
          let target : Target = record { key = case.key; to = p } in
          let left = targets (map case_layout cases) (q + 1) in
          let opened = Switch e (target ∷ left) end p done ∷ more in
          let whole = Whole first.back opened in
          let on = cases_on (q + 1) e left end (q + 1) (done ++ back ∷ []) more in
          let go = λ (state : State). code_read (q + 1) rest state in
          let behind : p + length (b.code p) ≡ q = omega (arith, sized case.arm.term p) in
          let one_more : number + 1 ≡ length (done ++ back ∷ []) = omega (arith, length-append done (back ∷ []), counted) in
          let still : end ≡ q + 1 + arms_size (blocks (map case_layout cases)) = omega (arith, ends) in
          read-then (b.code p) (op.Arm number end ∷ rest) p q (Due opened) whole behind (first.reads p opened refl)
          ∙ read-cons q (op.Arm number end) rest whole
          ∙ ap (λ n. go_on (if nat_eq number n && nat_eq end end && nat_eq p p then on else None) go) (sym counted)
          ∙ ap (λ b. go_on (if b && nat_eq end end && nat_eq p p then on else None) go) (same-number number)
          ∙ ap (λ b. go_on (if b && nat_eq p p then on else None) go) (same-number end)
          ∙ ap (λ b. go_on (if b then on else None) go) (same-number p)
          ∙ later.reads e end (q + 1) (number + 1) (done ++ back ∷ []) more one_more still
          ∙ ap (λ cases. Some (Whole (term.Switch e cases) more)) (append_assoc done (back ∷ []) later.backs);
      skeletons = ap (λ s. s ∷ map (λ (case : Case). skeleton_of case.arm.term) later.backs) first.skeleton ∙ ap (λ rest. skeleton_of case.arm.term ∷ rest) later.skeletons;
    }

targets-count : (cases : List Case) (p : ℕ) → length (targets (map case_layout cases) p) ≡ length cases
targets-count [] p = refl
targets-count (case ∷ cases) p = ap (λ n. suc n) (targets-count cases (p + (layout case.arm.term).size + 1))

switch-reads : (e : Expr) (cases : List Case) → few cases ≡ true → (found : CasesBack cases) → ReadsAs (switch_block e (map case_layout cases)) (term.Switch e found.backs)
switch-reads e cases fits found p open_ takes =
    let end = p + (1 + arms_size (blocks (map case_layout cases))) in
    let left = targets (map case_layout cases) (p + 1) in
    let code = arms_code (λ number. op.Arm number end) (blocks (map case_layout cases)) 0 (p + 1) in
    let on = cases_on (p + 1) e left end (p + 1) [] open_ in
    let go = λ (state : State). code_read (p + 1) code state in
    read-cons p (op.Switch e left end) code (Due open_)
    ∙ ap (λ b. go_on (if b && few left then on else None) go) takes
    ∙ ap (λ n. go_on (if nat_le n most then on else None) go) (targets-count cases (p + 1))
    ∙ ap (λ b. go_on (if b then on else None) go) fits
    ∙ found.reads e end (p + 1) 0 [] open_ refl (omega arith)

pub switch-back : (e : Expr) (cases : List Case) → few cases ≡ true → EachCase Back cases → Back (term.Switch e cases)
switch-back e cases fits h =
    let found = cases-back cases h in
    record {
      back = term.Switch e found.backs;
      reads = by-layout _ _ (term.Switch e found.backs) (layout-Switch e cases) (switch-reads e cases fits found);
      skeleton = skeleton-Switch e found.backs ∙ ap (λ kids. skeleton.Arms kids) found.skeletons ∙ sym (skeleton-Switch e cases);
    }
