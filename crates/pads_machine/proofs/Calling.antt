-- A call: its run over stacks of its own halts with what the calculus reads it as, and where calls may be nested less deep
-- in it, it needs no more room.
use Rattle.std.proofs.Common.{◌≡◌, ◌∙◌, sym, ap, refl, arith, ℕ, zero, suc, ◌<◌, ◌≤◌, ⊎_elim, max, min, Bool, true, false, if◌then◌else◌, List, [], ◌∷◌, length, get_or, None, Some, slice_get}
use Rattle.std.proofs.lemmas.Bool.{cases_lt}
use Rattle.pads_expr.specs.declared.expr.Expr.{Expr}
use Rattle.pads_expr.specs.Value.{Pairs}
use Rattle.pads_calc.specs.declared.decl.Decl.{Decl}
use Rattle.pads_calc.specs.Arguments.{arguments}
use Rattle.pads_calc.specs.Calculus.{caller}
use Rattle.pads_calc.specs.Readings.{Subject}
use Rattle.pads_module.specs.Scopes.{arities_of}
use Rattle.pads_image.specs.declared.entry.Entry.{Entry}
use Rattle.pads_image.specs.declared.op.Op.{Op}
use Rattle.pads_image.specs.declared.op.Op.TheVariants as op
use Rattle.pads_image.specs.Answers.{HaltsWith}
use Rattle.pads_image.specs.Code.{IsCodeOf, code_of, entries_of}
use Rattle.pads_image.specs.Heights.{Deeper, call_needs, entries_at, height_after, inside, later_arities, needs, needs_from, needs_over, next_arity}
use Rattle.pads_image.specs.Validity.{arities_of as arities_of_entries}
use Rattle.pads_image.specs.Variables.{is_return}
use Rattle.pads_image.specs.States.{State}
use Rattle.law_images.proofs.Halting.{call-reads, declaration-halts}
use Rattle.law_images.proofs.ValidCode.{arities-same}
use Rattle.pads_machine.specs.declared.known.Call.{Call}
use Rattle.pads_machine.specs.Known.{begun_at, reading_of}
use Rattle.pads_machine.proofs.Bound.{bound-count}
use Rattle.pads_machine.proofs.Fitting.{room-there}
use Rattle.pads_machine.proofs.Halts.{halts-there}

-- needs one call deeper that are no more than others
abbrev AreLess : Deeper → Deeper → Type 0
AreLess None more = Unit {0}
AreLess (Some less) None = ⊥
AreLess (Some less) (Some more) = (number : ℕ) → get_or less number 0 ≤ get_or more number 0

calls-less : (a b : Deeper) → AreLess a b → (number h : ℕ) → call_needs a number h ≤ call_needs b number h
calls-less None None is number h = omega arith
calls-less None (Some b) is number h = omega arith
calls-less (Some a) None is number h = absurd is
calls-less (Some a) (Some b) is number h = omega (arith, is number)

entries-less : (a b : Deeper) → AreLess a b → (instruction : Op) (h : ℕ) → entries_at a instruction h ≤ entries_at b instruction h
entries-less a b is (op.Call number args) h = calls-less a b is number h
entries-less a b is instruction h = omega arith

ends-less : (most more h : ℕ) (xs ys : List ℕ) → most ≤ more → ((number : ℕ) → get_or xs number 0 ≤ get_or ys number 0) → (number : ℕ)
    → get_or (max most h ∷ xs) number 0 ≤ get_or (max more h ∷ ys) number 0
ends-less most more h xs ys less rest zero = omega (arith, less)
ends-less most more h xs ys less rest (suc number) = rest number

either-less : (end : Bool) (xs ys xs' ys' : List ℕ) (number : ℕ) → get_or xs number 0 ≤ get_or xs' number 0 → get_or ys number 0 ≤ get_or ys' number 0
    → get_or (if end then xs else ys) number 0 ≤ get_or (if end then xs' else ys') number 0
either-less true xs ys xs' ys' number first second = first
either-less false xs ys xs' ys' number first second = second

from-less : (a b : Deeper) → AreLess a b → (code : List Op) (later : List ℕ) (h most more : ℕ) → most ≤ more → (number : ℕ)
    → get_or (needs_from a later h most code) number 0 ≤ get_or (needs_from b later h more code) number 0
unfolding needs_from
from-less a b is [] later h most more less number = omega arith
from-less a b is (instruction ∷ code) later h most more less number =
    either-less (is_return instruction)
    (max most h ∷ needs_from a (later_arities later) (next_arity later) 0 code)
    (needs_from a later (height_after instruction h) (max most (entries_at a instruction h)) code)
    (max more h ∷ needs_from b (later_arities later) (next_arity later) 0 code)
    (needs_from b later (height_after instruction h) (max more (entries_at b instruction h)) code) number
    (ends-less most more h (needs_from a (later_arities later) (next_arity later) 0 code) (needs_from b (later_arities later) (next_arity later) 0 code) less
    (λ number. from-less a b is code (later_arities later) (next_arity later) 0 0 (omega arith) number) number)
    (from-less a b is code later (height_after instruction h) (max most (entries_at a instruction h)) (max more (entries_at b instruction h))
    (omega (arith, less, entries-less a b is instruction h)) number)

over-less : (a b : Deeper) → AreLess a b → (code : List Op) (arities : List ℕ) (number : ℕ) → get_or (needs_over a code arities) number 0 ≤ get_or (needs_over b code arities) number 0
over-less a b is code arities number = from-less a b is code (later_arities arities) (next_arity arities) 0 0 (omega arith) number

next-less : (code : List Op) (arities : List ℕ) (depth number : ℕ) → get_or (needs code arities depth) number 0 ≤ get_or (needs code arities (suc depth)) number 0
unfolding needs
next-less code arities zero number = over-less None (Some (needs_over None code arities)) tt code arities number
next-less code arities (suc depth) number =
    over-less (Some (needs code arities depth)) (Some (needs code arities (suc depth))) (λ number. next-less code arities depth number) code arities number

-- where calls may be nested deeper, no less is needed
pub needs-less : (code : List Op) (arities : List ℕ) (depth more number : ℕ) → depth ≤ more → get_or (needs code arities depth) number 0 ≤ get_or (needs code arities more) number 0
needs-less code arities depth zero number less =
    let same : depth ≡ zero = omega arith in
    omega (arith, ap (λ depth. get_or (needs code arities depth) number 0) same)
needs-less code arities depth (suc more) number less =
    ⊎_elim
    (λ (below : depth < suc more). omega (arith, needs-less code arities depth more number (omega (arith, below)), next-less code arities more number))
    (λ (past : suc more ≤ depth).
    let same : depth ≡ suc more = omega (arith, less, past) in
    omega (arith, ap (λ depth. get_or (needs code arities depth) number 0) same))
    (cases_lt depth (suc more))

-- a call reads as it says, whatever its arguments are written as
pub call-is : (decls : List Decl) (subject : Subject) (call : Call) (args : List Expr) (env : Pairs) (depth place : ℕ) → depth ≡ suc call.depth → call.place ≡ place
    → arguments args env ≡ Some call.args → caller subject decls depth call.number args env place ≡ reading_of decls subject call
call-is decls subject call args env depth place deep there worth =
    ap (λ (depth : ℕ). caller subject decls depth call.number args env place) deep
    ∙ ap (λ (place : ℕ). caller subject decls (suc call.depth) call.number args env place) (sym there)
    ∙ call-reads decls subject 0 call.depth call.number call.place args env call.args worth

-- the code and the entries of the declarations
module _ (code : List Op) (of_entries : List Entry) (subject : Subject) (decls : List Decl) (is : IsCodeOf decls code of_entries) where
  fits-less : (room number depth : ℕ) → depth ≤ inside → get_or (needs code (arities_of_entries of_entries) inside) number 0 ≤ room
      → get_or (needs (code_of decls) (arities_of decls) depth) number 0 ≤ room
  fits-less room number depth less fits =
      let need : get_or (needs code (arities_of_entries of_entries) inside) number 0 ≡ get_or (needs (code_of decls) (arities_of decls) inside) number 0 =
      ap (λ (code : List Op). get_or (needs code (arities_of_entries of_entries) inside) number 0) is.code_is
      ∙ ap (λ (es : List Entry). get_or (needs (code_of decls) (arities_of_entries es) inside) number 0) is.entries_are
      ∙ ap (λ (arities : List ℕ). get_or (needs (code_of decls) arities inside) number 0) (arities-same decls 0) in
      omega (arith, needs-less (code_of decls) (arities_of decls) depth inside number less, need, fits)

  -- a call runs over stacks with room for each declaration, and halts with what it reads as
  pub runs-call : (room : ℕ) (call : Call) (entry : Entry) (s : State) → s ≡ begun_at subject entry call → slice_get of_entries call.number ≡ Some entry
      → call.depth ≤ inside → call.place ≤ length subject.bytes → get_or (needs code (arities_of_entries of_entries) inside) call.number 0 ≤ room
      → HaltsWith code of_entries subject room s (reading_of decls subject call)
  runs-call room call entry s begun there few within fits =
      let t = begun_at subject entry call in
      let entry_is : slice_get (entries_of decls) call.number ≡ Some entry = ap (λ (es : List Entry). slice_get es call.number) (sym is.entries_are) ∙ there in
      let halts = declaration-halts decls subject room call.depth call.number call.place call.args within (fits-less room call.number call.depth few fits) entry entry_is in
      halts-there (code_of decls) code (entries_of decls) of_entries subject room room t s (reading_of decls subject call) is.code_is is.entries_are begun (omega arith) halts

  -- its parameters have room there
  pub params-fit : (room : ℕ) (call : Call) (entry : Entry) → slice_get of_entries call.number ≡ Some entry
      → call.depth ≤ inside → call.place ≤ length subject.bytes → get_or (needs code (arities_of_entries of_entries) inside) call.number 0 ≤ room
      → min (length entry.params) (length call.args) ≤ room
  params-fit room call entry there few within fits =
      let t = begun_at subject entry call in
      let small = room-there code of_entries subject room t (reading_of decls subject call) (runs-call room call entry t refl there few within fits) in
      omega (arith, small, bound-count entry.params call.args [])
