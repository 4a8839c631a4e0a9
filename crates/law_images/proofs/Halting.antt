-- Each record's run halts with the calculus' reading of its type, and never needs more
-- stack entries than the need.
use Rattle.std.proofs.Common.{◌≡◌, ◌∙◌, sym, ap, refl, subst, arith, ℕ, zero, suc, ◌+◌, ◌-◌, ◌<◌, ◌≤◌, Bool, cond, true, ◌&&◌, nat_lt, List, [], ◌∷◌, ◌++◌, length, length-append, take, drop, get_or, Option, Some, None, slice_get}
use Rattle.pads_value.specs.declared.cause.Cause.TheVariants as cause
use Rattle.pads_expr.specs.declared.expr.Expr.{Expr}
use Rattle.pads_expr.specs.Value.{Pairs}
use Rattle.pads_dispatch.specs.declared.base.Arg.{Arg}
use Rattle.std.proofs.lemmas.Bool.{and_parts, le-leb, ltb-true}
use Rattle.pads_calc.specs.declared.decl.Decl.{Decl}
use Rattle.pads_calc.specs.declared.decl.Shape.{Shape}
use Rattle.pads_calc.specs.declared.term.Term.{Term}
use Rattle.pads_calc.specs.declared.reading.Reading.{Reading}
use Rattle.pads_calc.specs.Arguments.{arguments, bound_to}
use Rattle.pads_calc.specs.Calculus.{body_of, caller, read, meaning}
use Rattle.pads_calc.specs.Readings.{Subject, fails}
use Rattle.pads_calc.specs.Leaves.{unit_of}
use Rattle.pads_calc.specs.Rows.{body_reading, deepest, kept_by, row_by, subject_of_cut, type_of}
use Rattle.pads_module.specs.Scopes.{arities_of, name_there, shape_there}
use Rattle.pads_calc.proofs.Bindings.{bound-none}
use Rattle.pads_calc.proofs.Calls.{caller-zero, call-unargued, call-undeclared, call-found}
use Rattle.law_calculus.proofs.SoundTerms.{sound-meaning}
use Rattle.pads_image.specs.declared.entry.Entry.{Entry}
use Rattle.pads_image.specs.declared.op.Op.{Op}
use Rattle.pads_image.specs.declared.op.Op.TheVariants as op
use Rattle.pads_image.specs.Answers.{HaltsWith, StandsFor, first_of, start}
use Rattle.pads_image.specs.Blocks.{single, layout}
use Rattle.pads_image.specs.Code.{code_of, entries_of}
use Rattle.pads_image.specs.Heights.{Deeper, call_needs, inside, need_of, needs, stack_need}
use Rattle.pads_image.specs.Validity.{arities_of as arities_of_entries}
use Rattle.pads_image.specs.States.{State, Caller, entries, floor_of, seen}
use Rattle.pads_image.specs.Steps.{Goes, Stuck, does_there, call_step, call_in}
use Rattle.law_images.proofs.Declared.{Declared, declared, undeclared, entry_for, needs_of, stands}
use Rattle.law_images.proofs.ValidCode.{arities-same, kept-same}
use Rattle.law_images.proofs.Levels.{below-left, below-right}
use Rattle.law_images.proofs.LevelledTerms.{levelled}
use Rattle.pads_image.proofs.Lengths.{sized}
use Rattle.law_images.proofs.Places.{first-there, left-there, right-there}
use Rattle.law_images.proofs.Reaching.{To, once, join, to-same, seen-is, bound-over, bound-length, take-over, drop-over}
use Rattle.law_images.proofs.Running.{Ready, RunsAs}
use Rattle.law_images.proofs.TermsRun.{CallRuns, runs}

module _ (decls : List Decl) (subject : Subject) (most : ℕ) where
  -- the needs one call deeper than calls at a depth
  abbrev pub deeper_at : ℕ → Deeper
  deeper_at zero = None
  deeper_at (suc depth) = Some (needs (code_of decls) (arities_of decls) depth)

  abbrev RunsAt : ℕ → Type 0
  RunsAt depth = CallRuns (code_of decls) (entries_of decls) subject most (deeper_at depth) depth (caller subject decls depth)

  -- what declarations need where calls may be nested so deep in them
  needs-at : (depth : ℕ) → needs (code_of decls) (arities_of decls) depth ≡ needs_of (deeper_at depth) most decls 0
  unfolding needs
  needs-at zero = refl
  needs-at (suc depth) = refl

  abbrev stand : State → ℕ → Reading → State
  stand s p r = record s { at_ = p; last = r }

  module _ (number : ℕ) (args : List Expr) where
    abbrev call_op : Op
    call_op = op.Call number args

    abbrev ReadyFor : ℕ → ℕ → ℕ → ℕ → State → Type 0
    ReadyFor depth = Ready (code_of decls) (entries_of decls) subject most (deeper_at depth) depth (call_op ∷ [])

    -- a step to the next instruction
    steps-on : (depth p below h : ℕ) (s : State) (r : Reading) → ReadyFor depth p below h s → h ≤ call_needs (deeper_at depth) number h
        → call_step subject.origin (entries_of decls) number args s.depth s ≡ Goes (stand s (s.at_ + 1) r) → To (code_of decls) (entries_of decls) subject most s (stand s (p + 1) r)
    steps-on depth p below h s r ready small goes =
        once (code_of decls) (entries_of decls) subject most s (stand s (p + 1) r) p call_op ready.at_
        (first-there (code_of decls) p call_op [] ready.there) (omega (arith, ready.counted, ready.fits.0, small))
        (goes ∙ ap (λ q. Goes (stand s (q + 1) r)) ready.at_)

    deep-runs : RunsAs (code_of decls) (entries_of decls) subject most None zero (single call_op) (λ env i. caller subject decls zero number args env i)
    deep-runs p below h s ready =
        let r = fails subject.origin cause.Depth s.last.place in
        to-same (code_of decls) (entries_of decls) subject most s (stand s (p + 1) r) (stand s (p + 1) (caller subject decls zero number args (seen s) s.last.place))
        (ap (λ r. stand s (p + 1) r) (sym (caller-zero subject decls number args (seen s) s.last.place)))
        (steps-on zero p below h s r ready (omega arith) (ap (λ depth. call_step subject.origin (entries_of decls) number args depth s) ready.deep))

    -- a call with its arguments and its declaration: the body runs one less deep, and returns
    module _ (depth : ℕ) (bodies : (t : Term) → RunsAs (code_of decls) (entries_of decls) subject most (deeper_at depth) depth (layout t) (read subject (caller subject decls depth) t)) where
      body-runs : (found : List Arg) (decl : Decl) (p below h : ℕ) (s : State) → ReadyFor (suc depth) p below h s
          → arguments args (seen s) ≡ Some found → slice_get decls number ≡ Some decl
          → To (code_of decls) (entries_of decls) subject most s (stand s (p + 1) (meaning subject decls depth decl.body (bound_to decl.params found []) s.last.place))
      body-runs found decl p below h s ready argued there =
          let d = declared (deeper_at depth) most decls 0 number decl there in
          let b = layout decl.body in
          let place = s.last.place in
          let bindings = bound_to decl.params found s.bindings in
          let own = bound_to decl.params found [] in
          let over : bindings ≡ own ++ s.bindings = bound-over decl.params found [] s.bindings in
          let c : Caller = record { back = s.at_ + 1; base = length s.bindings } in
          let t : State = record s { at_ = d.first; depth = depth; bindings = bindings; callers = c ∷ s.callers } in
          let r = meaning subject decls depth decl.body (seen t) place in
          let q = d.first + b.size in
          let u = stand t q r in
          let below_ = below + h + 1 in
          let code_ = stands (deeper_at depth) most decls number decl d in
          let ends : d.first + length (b.code d.first) ≡ q = ap (λ n. d.first + n) (sized decl.body d.first) in
          let fits = d.bounded below_ (omega (arith, ready.fits.0, ap (λ found. get_or found number 0) (needs-at depth))) in
          let level = (levelled (deeper_at depth) most decl.body).level d.first (length decl.params) in
          let final = below-right (deeper_at depth) most (b.code d.first) (op.Return ∷ []) below_ (length decl.params) (length decl.params) level fits in
          let sees : seen t ≡ own = seen-is t ∙ ap (λ bs. take (length bs - length s.bindings) bs) over ∙ take-over own s.bindings in
          let back : drop (length bindings - length s.bindings) bindings ≡ s.bindings = ap (λ bs. drop (length bs - length s.bindings) bs) over ∙ drop-over own s.bindings in
          let deep : depth + 1 ≡ s.depth = omega (arith, ready.deep) in
          let counted : entries t ≤ below_ + length decl.params = omega (arith, ready.counted, bound-length decl.params found s.bindings) in
          let returned : (bs : Pairs) (k a : ℕ) (r : Reading) → State = λ bs k a r. record s { at_ = a; last = r; depth = k; bindings = bs } in
          let made : returned (drop (length bindings - length s.bindings) bindings) (depth + 1) (s.at_ + 1) r ≡ stand s (p + 1) (meaning subject decls depth decl.body own place) =
          ap (λ bs. returned bs (depth + 1) (s.at_ + 1) r) back
          ∙ ap (λ k. returned s.bindings k (s.at_ + 1) r) deep
          ∙ ap (λ a. returned s.bindings s.depth (a + 1) r) ready.at_
          ∙ ap (λ env. returned s.bindings s.depth (p + 1) (meaning subject decls depth decl.body env place)) sees in
          let end = stand s (p + 1) (meaning subject decls depth decl.body own place) in
          join (code_of decls) (entries_of decls) subject most s t end
          (once (code_of decls) (entries_of decls) subject most s t p call_op ready.at_ (first-there (code_of decls) p call_op [] ready.there)
          (omega (arith, ready.counted, ready.fits.0))
          (ap (λ k. call_step subject.origin (entries_of decls) number args k s) ready.deep
          ∙ ap (λ entry. call_in subject.origin entry (arguments args (seen s)) depth s) d.entry
          ∙ ap (λ found. call_in subject.origin (Some (entry_for decl d.first)) found depth s) argued))
          (join (code_of decls) (entries_of decls) subject most t u end
          (bodies decl.body d.first below_ (length decl.params) t (record {
            at_ = refl;
            deep = refl;
            sane = omega (arith, ap length over, length-append own s.bindings);
            above = omega (arith, ready.above, ap length over, length-append own s.bindings);
            counted = counted;
            within = ready.within;
            there = left-there (code_of decls) d.first (b.code d.first) (op.Return ∷ []) code_;
            fits = below-left (deeper_at depth) most (b.code d.first) (op.Return ∷ []) below_ (length decl.params) fits;
          }))
          (once (code_of decls) (entries_of decls) subject most u end q op.Return refl
          (first-there (code_of decls) q op.Return [] (right-there (code_of decls) d.first (b.code d.first) (op.Return ∷ []) q ends code_))
          (omega (arith, counted, final.0))
          (ap (λ (found : Bool). cond found (Goes (returned (drop (length bindings - length s.bindings) bindings) (depth + 1) (s.at_ + 1) r)) Stuck)
          (le-leb (floor_of s.nodes) (length s.bindings) ready.above) ∙ ap (λ s. Goes s) made)))

      -- by cases of the arguments and of the declaration
      called : (found : Option (List Arg)) (decl : Option Decl) (p below h : ℕ) (s : State) → ReadyFor (suc depth) p below h s
          → arguments args (seen s) ≡ found → slice_get decls number ≡ decl
          → To (code_of decls) (entries_of decls) subject most s (stand s (p + 1) (caller subject decls (suc depth) number args (seen s) s.last.place))
      called None decl p below h s ready argued there =
          let r = fails subject.origin cause.BadParam s.last.place in
          to-same (code_of decls) (entries_of decls) subject most s (stand s (p + 1) r) (stand s (p + 1) (caller subject decls (suc depth) number args (seen s) s.last.place))
          (ap (λ r. stand s (p + 1) r) (sym (call-unargued subject decls number args (seen s) s.last.place (suc depth) (λ none. cc) argued)))
          (steps-on (suc depth) p below h s r ready (omega arith)
          (ap (λ k. call_step subject.origin (entries_of decls) number args k s) ready.deep
          ∙ ap (λ found. call_in subject.origin (slice_get (entries_of decls) number) found depth s) argued))
      called (Some found) None p below h s ready argued there =
          let r = fails subject.origin cause.BadParam s.last.place in
          to-same (code_of decls) (entries_of decls) subject most s (stand s (p + 1) r) (stand s (p + 1) (caller subject decls (suc depth) number args (seen s) s.last.place))
          (ap (λ r. stand s (p + 1) r) (sym (call-undeclared subject decls number args (seen s) s.last.place (suc depth) found (λ none. cc) argued there)))
          (steps-on (suc depth) p below h s r ready (omega arith)
          (ap (λ k. call_step subject.origin (entries_of decls) number args k s) ready.deep
          ∙ ap (λ found. call_in subject.origin (slice_get (entries_of decls) number) found depth s) argued
          ∙ ap (λ entry. call_in subject.origin entry (Some found) depth s) (undeclared decls 0 number there)))
      called (Some found) (Some decl) p below h s ready argued there =
          let less : suc depth - 1 ≡ depth = omega arith in
          to-same (code_of decls) (entries_of decls) subject most s
          (stand s (p + 1) (meaning subject decls depth decl.body (bound_to decl.params found []) s.last.place))
          (stand s (p + 1) (caller subject decls (suc depth) number args (seen s) s.last.place))
          (ap (λ k. stand s (p + 1) (meaning subject decls k decl.body (bound_to decl.params found []) s.last.place)) (sym less)
          ∙ ap (λ r. stand s (p + 1) r) (sym (call-found subject decls number args (seen s) s.last.place (suc depth) found decl (λ none. cc) argued there)))
          (body-runs found decl p below h s ready argued there)

  -- calls run as they read, at each depth
  pub calls-run : (depth : ℕ) → RunsAt depth
  calls-run zero number args p below h s ready = deep-runs number args p below h s ready
  calls-run (suc depth) number args p below h s ready =
      called number args depth
      (λ t. runs (code_of decls) (entries_of decls) subject most (deeper_at depth) depth (caller subject decls depth) (sound-meaning subject decls depth) (calls-run depth) t)
      (arguments args (seen s)) (slice_get decls number) p below h s ready refl refl

  -- a declaration with arguments, at a place, where calls may be nested so deep in it
  module _ (depth number place : ℕ) (args : List Arg) where
    -- where its run begins
    abbrev pub begun : Entry → State
    begun entry = record { at_ = entry.first; last = unit_of subject.origin place; depth = depth; bindings = bound_to entry.params args []; nodes = []; marks = []; callers = [] }

    -- what it reads
    abbrev pub reads : Reading
    reads = body_of subject.origin (read subject (caller subject decls depth)) (slice_get decls number) (Some args) place

    module _ (within : place ≤ length subject.bytes) (fits : get_or (needs (code_of decls) (arities_of decls) depth) number 0 ≤ most) where
      module _ (decl : Decl) (there : slice_get decls number ≡ Some decl) where
        d : Declared (deeper_at depth) most decls 0 number decl
        d = declared (deeper_at depth) most decls 0 number decl there

        body-halts : HaltsWith (code_of decls) (entries_of decls) subject most (begun (entry_for decl d.first)) reads
        body-halts =
            let b = layout decl.body in
            let own = bound_to decl.params args [] in
            let t = begun (entry_for decl d.first) in
            let q = d.first + b.size in
            let u = stand t q (meaning subject decls depth decl.body (seen t) place) in
            let over : own ≡ own ++ [] = bound-over decl.params args [] [] in
            let sees : seen t ≡ own = seen-is t ∙ ap (λ (bs : Pairs). take (length bs - 0) bs) over ∙ take-over own [] in
            let code_ = stands (deeper_at depth) most decls number decl d in
            let ends : d.first + length (b.code d.first) ≡ q = ap (λ n. d.first + n) (sized decl.body d.first) in
            let need : get_or (needs_of (deeper_at depth) most decls 0) number 0 ≡ get_or (needs (code_of decls) (arities_of decls) depth) number 0 = ap (λ found. get_or found number 0) (sym (needs-at depth)) in
            let bounded = d.bounded 0 (omega (arith, fits, need)) in
            let level = (levelled (deeper_at depth) most decl.body).level d.first (length decl.params) in
            let final = below-right (deeper_at depth) most (b.code d.first) (op.Return ∷ []) 0 (length decl.params) (length decl.params) level bounded in
            let counted : entries t ≤ 0 + length decl.params = omega (arith, bound-length decl.params args []) in
            record {
              end = u;
              reached = runs (code_of decls) (entries_of decls) subject most (deeper_at depth) depth (caller subject decls depth) (sound-meaning subject decls depth) (calls-run depth) decl.body d.first 0 (length decl.params) t (record {
                at_ = refl;
                deep = refl;
                sane = omega arith;
                above = omega arith;
                counted = counted;
                within = within;
                there = left-there (code_of decls) d.first (b.code d.first) (op.Return ∷ []) code_;
                fits = below-left (deeper_at depth) most (b.code d.first) (op.Return ∷ []) 0 (length decl.params) bounded;
              });
              within = omega (arith, counted, final.0);
              halts = ap (λ o. does_there (entries_of decls) subject o u)
                  (first-there (code_of decls) q op.Return [] (right-there (code_of decls) d.first (b.code d.first) (op.Return ∷ []) q ends code_));
              last = ap (λ env. meaning subject decls depth decl.body env place) sees
                  ∙ ap (λ (decl : Option Decl). body_of subject.origin (read subject (caller subject decls depth)) decl (Some args) place) (sym there);
            }

      module _ (entry : Entry) (entry_is : slice_get (entries_of decls) number ≡ Some entry) where
        by-decl : (decl : Option Decl) → slice_get decls number ≡ decl → HaltsWith (code_of decls) (entries_of decls) subject most (begun entry) reads
        by-decl None there = let never : Some entry ≡ None = sym entry_is ∙ undeclared decls 0 number there in absurd cc
        by-decl (Some decl) there =
            let both : Some entry ≡ Some (entry_for decl (d decl there).first) = sym entry_is ∙ (d decl there).entry in
            let same : entry ≡ entry_for decl (d decl there).first = cc in
            subst (λ (entry : Entry). HaltsWith (code_of decls) (entries_of decls) subject most (begun entry) reads) (sym same) (body-halts decl there)

        -- it halts with what it reads, and never needs more
        pub declaration-halts : HaltsWith (code_of decls) (entries_of decls) subject most (begun entry) reads
        declaration-halts = by-decl (slice_get decls number) refl

  -- a call that may be made reads what its declaration does with what the arguments stand for
  pub call-reads : (depth number place : ℕ) (es : List Expr) (env : Pairs) (args : List Arg) → arguments es env ≡ Some args
      → caller subject decls (suc depth) number es env place ≡ reads depth number place args
  unfolding caller
  call-reads depth number place es env args argued =
      ap (λ (found : Option (List Arg)). body_of subject.origin (read subject (caller subject decls depth)) (slice_get decls number) found place) argued

  -- the run of a record's type, at the record's first byte
  module _ (number : ℕ) (decl : Decl) (there : slice_get decls number ≡ Some decl) (fits : get_or (needs (code_of decls) (arities_of decls) inside) number 0 ≤ most) where
    pub halts : HaltsWith (code_of decls) (entries_of decls) subject most (start (entries_of decls) subject number) (caller subject decls deepest number [] [] 0)
    halts =
        let entry = entry_for decl (declared (deeper_at inside) most decls 0 number decl there).first in
        let entry_is : slice_get (entries_of decls) number ≡ Some entry = (declared (deeper_at inside) most decls 0 number decl there).entry in
        let begins : ℕ → Pairs → State = λ p bindings. record { at_ = p; last = unit_of subject.origin 0; depth = inside; bindings = bindings; nodes = []; marks = []; callers = [] } in
        let starts : start (entries_of decls) subject number ≡ begun inside number 0 [] entry =
        ap (λ entry. begins (first_of entry) []) entry_is ∙ ap (λ bindings. begins entry.first bindings) (sym (bound-none entry.params [])) in
        subst (λ (s : State). HaltsWith (code_of decls) (entries_of decls) subject most s (caller subject decls deepest number [] [] 0)) (sym starts)
        (subst (λ (r : Reading). HaltsWith (code_of decls) (entries_of decls) subject most (begun inside number 0 [] entry) r) (sym (call-reads inside number 0 [] [] [] refl))
        (declaration-halts inside number 0 [] (omega arith) fits entry entry_is))

-- the type of a record is declared, and its need is in that of the image
there-below : (decls : List Decl) (number : ℕ) → number < length decls → (decl : Decl) × (slice_get decls number ≡ Some decl)
there-below [] number less = absurd (omega arith)
there-below (d ∷ decls) zero less = (d, refl)
there-below (d ∷ decls) (suc number) less = there-below decls number (omega (arith, less))

declared-type : (decls : List Decl) (head : Option ℕ) (each : ℕ) → (name_there (length decls) head && nat_lt each (length decls)) ≡ true → (number : ℕ)
    → (decl : Decl) × (slice_get decls (type_of (record { head = head; each = each }) number) ≡ Some decl)
declared-type decls None each shaped zero = there-below decls each (ltb-true each (length decls) (and_parts true (nat_lt each (length decls)) shaped).1)
declared-type decls (Some head) each shaped zero = there-below decls head (ltb-true head (length decls) (and_parts (nat_lt head (length decls)) (nat_lt each (length decls)) shaped).0)
declared-type decls head each shaped (suc number) = there-below decls each (ltb-true each (length decls) (and_parts (name_there (length decls) head) (nat_lt each (length decls)) shaped).1)

need-of-type : (found : List ℕ) (head : Option ℕ) (each number : ℕ) → get_or found (type_of (record { head = head; each = each }) number) 0 ≤ need_of found (record { head = head; each = each })
need-of-type found None each zero = omega arith
need-of-type found (Some head) each zero = omega arith
need-of-type found head each (suc number) = omega arith

-- the code of a module stands for it
pub stands-for : (decls : List Decl) (shape : Shape) → shape_there (length decls) shape ≡ true
    → StandsFor (code_of decls) (entries_of decls) shape (stack_need (code_of decls) (entries_of decls) shape) decls
stands-for decls shape shaped scan number cut =
    let subject = subject_of_cut scan cut in
    let most = stack_need (code_of decls) (entries_of decls) shape in
    let found = declared-type decls shape.head shape.each shaped number in
    let arities : arities_of_entries (entries_of decls) ≡ arities_of decls = arities-same decls 0 in
    let small = need-of-type (needs (code_of decls) (arities_of decls) inside) shape.head shape.each number in (
      body_reading decls scan (type_of shape number) cut,
      halts decls subject most (type_of shape number) found.0 found.1 (subst (λ (arities : List ℕ). get_or (needs (code_of decls) (arities_of decls) inside) (type_of shape number) 0 ≤ need_of (needs (code_of decls) arities inside) shape) (sym arities) small),
      ap (λ kept. row_by cut.mark number cut (kept_by kept (type_of shape number) (body_reading decls scan (type_of shape number) cut))) (sym (kept-same decls 0)),
    )
