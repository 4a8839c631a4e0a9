-- The rows of the pair, computed on the definition.
use Rattle.std.proofs.Common.{◌≡◌, ◌∙◌, ap, refl, arith, ℕ, true, pos, List, [], ◌∷◌, map, drop, Some, None}
use Rattle.std.specs.Prelude.{codes}
use Rattle.pads_code.specs.CodePage.{point}
use Rattle.pads_int.specs.Readings.{int_reading, run_reading}
use Rattle.pads_value.specs.declared.cause.Cause.TheVariants as cause
use Rattle.pads_value.specs.declared.descriptor.Pd.{out-roll-Pd}
use Rattle.pads_value.specs.declared.reading.Read.{Read}
use Rattle.pads_value.specs.declared.reading.Read.TheVariants.{Good, Soft, Hard}
use Rattle.pads_value.specs.declared.value.Val.{Val}
use Rattle.pads_value.specs.declared.value.Val.TheVariants as val
use Rattle.pads_expr.specs.Value.{Pairs}
use Rattle.pads_dispatch.specs.Readings.{base_reading}
use Rattle.pads_calc.specs.declared.reading.Reading.{Reading}
use Rattle.pads_calc.specs.declared.term.Term.{Term}
use Rattle.pads_calc.specs.declared.term.Term.TheVariants as term
use Rattle.pads_calc.specs.Calculus.{Caller, caller, part_reader, meaning}
use Rattle.pads_calc.specs.Leaves.{base_node, lit_of}
use Rattle.pads_calc.specs.Readings.{Reader, fails, is_ok, blame}
use Rattle.pads_calc.specs.Structs.{in_turn, struct_of}
use Rattle.pads_calc.specs.Wrappers.{absorb_of, found_at}
use Rattle.pads_calc.proofs.Rolls.{read-Base, read-Struct, read-Lit, read-Absorb, read-Scan}
use Rattle.pads_calc.proofs.Scans.{scan-here, scan-on, scan-next, scan-found, scan-over}
use Rattle.law_calculus.specs.Pair.{u8, number, literal, comma, part, parts, pair, first_of, read_pair, both_there, first_missing, both_out_of_range, all_missing, comma_later}

module _ (bytes : List ℕ) where
  abbrev call : Caller
  call = caller (first_of bytes) [] 0

  abbrev reads : Term → Reader
  reads t = meaning (first_of bytes) [] 0 t

  number-reads : (env : Pairs) (i : ℕ) (found : Read Val) → base_reading u8 [] (drop i bytes) ≡ found → reads number env i ≡ base_node 0 i found
  number-reads env i found is = read-Base (first_of bytes) call u8 [] env i ∙ ap (base_node 0 i) is

  abbrev mark : ℕ → Reading
  mark i = absorb_of (lit_of (first_of bytes) (codes ",") i)

  literal-reads : (env : Pairs) (i : ℕ) → reads literal env i ≡ mark i
  literal-reads env i = read-Absorb (first_of bytes) call (term.Lit (codes ",")) env i ∙ ap absorb_of (read-Lit (first_of bytes) call (codes ",") env i)

  comma-here : (env : Pairs) (i : ℕ) → is_ok (mark i) ≡ true → reads comma env i ≡ mark i
  comma-here env i is =
      read-Scan (first_of bytes) call literal env i
      ∙ scan-here (first_of bytes) (reads literal) env i (ap is_ok (literal-reads env i) ∙ is)
      ∙ literal-reads env i

  -- what stands behind the first part, and behind the second
  abbrev after : Reading → List Reading
  after a = a ∷ in_turn (map (part_reader (first_of bytes) call) (part None comma ∷ part (Some 1) number ∷ [])) ((0, a.value) ∷ []) a.place

  abbrev behind : Reading → Reading → List Reading
  behind a b = a ∷ b ∷ in_turn (map (part_reader (first_of bytes) call) (part (Some 1) number ∷ [])) ((0, a.value) ∷ []) b.place

  pair-reads : (a b c : Reading) → reads number [] 0 ≡ a → reads comma ((0, a.value) ∷ []) a.place ≡ b → reads number ((0, a.value) ∷ []) b.place ≡ c
      → reads pair [] 0 ≡ struct_of 0 (a ∷ b ∷ c ∷ []) 0
  pair-reads a b c first second third =
      read-Struct (first_of bytes) call parts [] 0
      ∙ ap (λ (r : Reading). struct_of 0 (after r) 0) first
      ∙ ap (λ (r : Reading). struct_of 0 (behind a r) 0) second
      ∙ ap (λ (r : Reading). struct_of 0 (a ∷ b ∷ r ∷ []) 0) third

-- 3,7
three : base_reading u8 [] (codes "3,7") ≡ Good 1 (val.Num (pos 3))
unfolding base_reading int_reading run_reading point
three = refl

seven : base_reading u8 [] (codes "7") ≡ Good 1 (val.Num (pos 7))
unfolding base_reading int_reading run_reading point
seven = refl

pub clean : read_pair (codes "3,7") ≡ both_there
clean =
    pair-reads (codes "3,7") (base_node 0 0 (Good 1 (val.Num (pos 3)))) (mark (codes "3,7") 1) (base_node 0 2 (Good 1 (val.Num (pos 7))))
    (number-reads (codes "3,7") [] 0 _ three)
    (comma-here (codes "3,7") _ 1 (simp out-roll-Pd))
    (number-reads (codes "3,7") _ 2 _ seven)
    ∙ simp out-roll-Pd

-- ,5
none : base_reading u8 [] (codes ",5") ≡ Hard cause.Invalid
unfolding base_reading int_reading run_reading point
none = refl

five : base_reading u8 [] (codes "5") ≡ Good 1 (val.Num (pos 5))
unfolding base_reading int_reading run_reading point
five = refl

pub first_is_missing : read_pair (codes ",5") ≡ first_missing
first_is_missing =
    pair-reads (codes ",5") (base_node 0 0 (Hard cause.Invalid)) (mark (codes ",5") 0) (base_node 0 1 (Good 1 (val.Num (pos 5))))
    (number-reads (codes ",5") [] 0 _ none)
    (comma-here (codes ",5") _ 0 (simp out-roll-Pd))
    (number-reads (codes ",5") _ 1 _ five)
    ∙ simp out-roll-Pd

-- 300,400
too_large : base_reading u8 [] (codes "300,400") ≡ Soft 3 cause.Range
unfolding base_reading int_reading run_reading point
too_large = refl

too_large_again : base_reading u8 [] (codes "400") ≡ Soft 3 cause.Range
unfolding base_reading int_reading run_reading point
too_large_again = refl

pub out_of_range : read_pair (codes "300,400") ≡ both_out_of_range
out_of_range =
    pair-reads (codes "300,400") (base_node 0 0 (Soft 3 cause.Range)) (mark (codes "300,400") 3) (base_node 0 4 (Soft 3 cause.Range))
    (number-reads (codes "300,400") [] 0 _ too_large)
    (comma-here (codes "300,400") _ 3 (simp out-roll-Pd))
    (number-reads (codes "300,400") _ 4 _ too_large_again)
    ∙ simp out-roll-Pd

-- the empty record: each part is read, and each is missing
nothing : base_reading u8 [] [] ≡ Hard cause.Invalid
unfolding base_reading int_reading run_reading point
nothing = refl

comma-nowhere : (env : Pairs) → reads [] comma env 0 ≡ fails 0 cause.MissingLiteral 0
comma-nowhere env =
    let f = reads [] literal in
    read-Scan (first_of []) (call []) literal env 0
    ∙ scan-on (first_of []) f env 0 (omega arith) (ap is_ok (literal-reads [] env 0) ∙ simp out-roll-Pd)
    ∙ scan-over 0 f env 0 1 1 (omega arith)
    ∙ ap (λ r. fails 0 (blame r) 0) (literal-reads [] env 0)
    ∙ simp out-roll-Pd

pub nothing_is_there : read_pair [] ≡ all_missing
nothing_is_there =
    pair-reads [] (base_node 0 0 (Hard cause.Invalid)) (fails 0 cause.MissingLiteral 0) (base_node 0 0 (Hard cause.Invalid))
    (number-reads [] [] 0 _ nothing)
    (comma-nowhere _)
    (number-reads [] _ 0 _ nothing)
    ∙ simp out-roll-Pd

-- 3;;,7xyz: the comma is found two bytes on, and three bytes are left
three_then : base_reading u8 [] (codes "3;;,7xyz") ≡ Good 1 (val.Num (pos 3))
unfolding base_reading int_reading run_reading point
three_then = refl

seven_then : base_reading u8 [] (codes "7xyz") ≡ Good 1 (val.Num (pos 7))
unfolding base_reading int_reading run_reading point
seven_then = refl

abbrev skipping : List ℕ
skipping = codes "3;;,7xyz"

comma-later : (env : Pairs) → reads skipping comma env 1 ≡ found_at 0 1 3 (mark skipping 3)
comma-later env =
    let f = reads skipping literal in
    read-Scan (first_of skipping) (call skipping) literal env 1
    ∙ scan-on (first_of skipping) f env 1 (omega arith) (ap is_ok (literal-reads skipping env 1) ∙ simp out-roll-Pd)
    ∙ scan-next 0 f env 1 9 2 (omega arith) (ap is_ok (literal-reads skipping env 2) ∙ simp out-roll-Pd)
    ∙ scan-found 0 f env 1 9 3 (omega arith) (ap is_ok (literal-reads skipping env 3) ∙ simp out-roll-Pd)
    ∙ ap (found_at 0 1 3) (literal-reads skipping env 3)

pub bytes_are_skipped : read_pair skipping ≡ comma_later
bytes_are_skipped =
    pair-reads skipping (base_node 0 0 (Good 1 (val.Num (pos 3)))) (found_at 0 1 3 (mark skipping 3)) (base_node 0 4 (Good 1 (val.Num (pos 7))))
    (number-reads skipping [] 0 _ three_then)
    (comma-later _)
    (number-reads skipping _ 4 _ seven_then)
    ∙ simp out-roll-Pd
