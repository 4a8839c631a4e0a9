-- Calls that take no byte, by the code and what stands at the place: of arrays whose elements are such calls, of structs
-- of one beside parts that take none, and of optional ones, down to the greatest depth.
use Rattle.std.specs.Prelude.{◌≡◌, ℕ, zero, suc, ◌+◌, ◌≤◌, ◌⊎◌, Bool, true, false, List, [], Option, Some, slice_get}
use Rattle.pads_expr.specs.declared.expr.Expr.{Expr}
use Rattle.pads_expr.specs.Value.{Pairs}
use Rattle.pads_dispatch.specs.declared.base.Arg.{Arg}
use Rattle.pads_dispatch.specs.declared.base.Base.{Base}
use Rattle.pads_calc.specs.declared.term.ComputedForm.{ComputedForm}
use Rattle.pads_calc.specs.Arguments.{arguments}
use Rattle.pads_calc.specs.Arrays.{size_at}
use Rattle.pads_calc.specs.Leaves.{base_of, lit_of}
use Rattle.pads_calc.specs.Readings.{Subject, is_ok}
use Rattle.pads_calc.specs.Wrappers.{last_place}
use Rattle.pads_image.specs.declared.entry.Entry.{Entry}
use Rattle.pads_image.specs.declared.op.Op.{Op}
use Rattle.pads_image.specs.declared.op.Op.TheVariants as op
use Rattle.pads_image.specs.Blocks.{bindings_of}
use Rattle.pads_steps.specs.Searches.{StandsNowhere}

-- whatever names stand for, there is a size or none is asked for
abbrev pub IsSize : Option Expr → Type 0
IsSize size = (env : Pairs) → (count : Option ℕ) × (size_at size env ≡ Some count)

-- an array begins at an address, with such a size
abbrev pub Begins : List Op → ℕ → Type 0
Begins code address = (size : Option Expr) × (to : ℕ) × (slice_get code address ≡ Some (op.Size size to)) × IsSize size

-- a literal or the record's end is read at an address
abbrev pub ReadsMarker : List Op → ℕ → Type 0
ReadsMarker code address = ((literal : List ℕ) × (slice_get code address ≡ Some (op.Lit literal))) ⊎ (slice_get code address ≡ Some op.Eor)

-- a terminator is looked for from an address on, and the array ends at another one where it stands
pub record HasTerminator (code : List Op) (address shut : ℕ) : Type 0 where
  pub mark : slice_get code address ≡ Some op.Mark
  pub marker : ReadsMarker code (address + 1)
  pub stop : slice_get code (address + 2) ≡ Some (op.Stop shut)

-- an optional call of a declaration stands from an address on: where it doesn't read without a fault, nothing is read
pub record IsOptional (code : List Op) (address number : ℕ) : Type 0 where
  pub mark : slice_get code address ≡ Some op.Mark
  pub call : (args : List Expr) × (slice_get code (address + 1) ≡ Some (op.Call number args))
  pub there : (branch : ℕ) × (slice_get code (address + 2) ≡ Some (op.Try branch (address + 6)))
  pub nothing : slice_get code (address + 3) ≡ Some op.Unit
  pub missing : (branch : ℕ) × (slice_get code (address + 4) ≡ Some (op.Try branch (address + 6)))

-- from an address on to another one a declaration is called, or may be
abbrev pub ReadsCall : List Op → ℕ → ℕ → ℕ → Type 0
ReadsCall code address number next =
    ((args : List Expr) × (slice_get code address ≡ Some (op.Call number args)) × (next ≡ address + 1)) ⊎ (IsOptional code address number × (next ≡ address + 6))

-- from an address on to another one what was read is under a constraint, or it is the same address
abbrev pub IsGuarded : List Op → ℕ → ℕ → Type 0
IsGuarded code address next =
    (next ≡ address) ⊎ ((binder : ℕ) × (condition : Expr) × (slice_get code address ≡ Some (op.Guard binder condition)) × (next ≡ address + 1))

-- where an array from an address on looks whether the record ends: behind its terminator, if it has one
abbrev pub IsBefore : List Op → ℕ → ℕ → ℕ → Type 0
IsBefore code first edge shut = (edge ≡ first + 2) ⊎ ((edge ≡ first + 5) × HasTerminator code (first + 2) shut)

-- a separator is looked for from an address on, and the array ends at another one where it isn't there; at a place it isn't
pub record LacksSeparator (code : List Op) (subject : Subject) (place address shut : ℕ) : Type 0 where
  pub missing : (literal : List ℕ) × (slice_get code address ≡ Some (op.Lit literal)) × (is_ok (lit_of subject literal place) ≡ false)
  pub absorb : slice_get code (address + 1) ≡ Some op.Absorb
  pub sep : slice_get code (address + 2) ≡ Some (op.Sep shut)

-- where an array has its element: behind the turn, or behind the separator, which isn't there at a place
abbrev pub IsBehind : List Op → Subject → ℕ → ℕ → ℕ → ℕ → Type 0
IsBehind code subject place edge element shut = (element ≡ edge + 2) ⊎ ((element ≡ edge + 5) × LacksSeparator code subject place (edge + 2) shut)

-- from an address on to another one stands an array of such calls of a declaration; its separator isn't there at a place
pub record IsArrayOf (code : List Op) (subject : Subject) (place first number next : ℕ) : Type 0 where
  pub edge : ℕ
  pub element : ℕ
  pub behind : ℕ
  pub begins : Begins code first
  pub full : (last : Option Expr) × (name : ℕ) × (slice_get code (first + 1) ≡ Some (op.Full last name (behind + 1)))
  pub before : IsBefore code first edge (behind + 1)
  pub over : slice_get code edge ≡ Some (op.Edge (behind + 1))
  pub turn : slice_get code (edge + 1) ≡ Some (op.Turn element)
  pub separated : IsBehind code subject place edge element (behind + 1)
  pub call : ReadsCall code element number behind
  pub elem : slice_get code behind ≡ Some (op.Elem (behind + 1) (first + 1))
  pub shut : slice_get code (behind + 1) ≡ Some op.Shut
  pub ends : next ≡ behind + 2

-- from an address on to another one what was read is kept as a part of a struct, under a constraint or not
pub record IsKept (code : List Op) (address : ℕ) (name : Option ℕ) (next : ℕ) : Type 0 where
  pub kept : ℕ
  pub guarded : IsGuarded code address kept
  pub part : slice_get code kept ≡ Some (op.Part name)
  pub ends : next ≡ kept + 1

-- whatever names stand for, a base type takes no byte at a place
abbrev pub IsIdleBase : Subject → ℕ → Base → List Expr → Type 0
IsIdleBase subject place base args = (env : Pairs) → (base_of subject base (arguments args env) place).place ≡ place

-- from an address on a literal is searched for that isn't found from a place on, and its value is dropped
pub record SeeksNone (code : List Op) (subject : Subject) (place address : ℕ) : Type 0 where
  pub literal : List ℕ
  pub begins : slice_get code address ≡ Some op.ScanFrom
  pub lit : slice_get code (address + 1) ≡ Some (op.Lit literal)
  pub absorb : slice_get code (address + 2) ≡ Some op.Absorb
  pub on : slice_get code (address + 3) ≡ Some (op.ScanOn (address + 1))
  pub within : place ≤ last_place subject place
  pub nowhere : StandsNowhere subject.bytes literal place (last_place subject place + 1)

-- from an address on to another one a base type is read that takes no byte at a place, a value is computed, or such a
-- literal is searched for
abbrev pub ReadsNone : List Op → Subject → ℕ → ℕ → ℕ → Type 0
ReadsNone code subject place address next =
    ((base : Base) × (args : List Expr) × (slice_get code address ≡ Some (op.Base base args)) × IsIdleBase subject place base args × (next ≡ address + 1))
    ⊎ ((e : Expr) × (form : ComputedForm) × (slice_get code address ≡ Some (op.Compute e form)) × (next ≡ address + 1))
    ⊎ (SeeksNone code subject place address × (next ≡ address + 4))

-- from an address on to another one stands such a part of a struct
abbrev pub IsIdlePart : List Op → Subject → ℕ → ℕ → Option ℕ → ℕ → Type 0
IsIdlePart code subject place address name next = (behind : ℕ) × ReadsNone code subject place address behind × IsKept code behind name next

-- from an address on to another one stand so many such parts of a struct, and so many of them are named
abbrev pub AreIdleParts : List Op → Subject → ℕ → ℕ → ℕ → ℕ → ℕ → Type 0
AreIdleParts code subject place first zero next names = (next ≡ first) × (names ≡ 0)
AreIdleParts code subject place first (suc count) next names =
    (last : ℕ)
    × (fewer : ℕ)
    × (name : Option ℕ)
    × AreIdleParts code subject place first count last fewer
    × IsIdlePart code subject place last name next
    × (names ≡ fewer + bindings_of name)

-- from an address on to another one stands a struct: such parts, one part that is a call of a declaration or may be,
-- and such parts again
pub record IsStructOf (code : List Op) (subject : Subject) (place first number next : ℕ) : Type 0 where
  pub ahead : ℕ
  pub calls_at : ℕ
  pub names_ahead : ℕ
  pub behind : ℕ
  pub name : Option ℕ
  pub kept : ℕ
  pub more : ℕ
  pub closes_at : ℕ
  pub names_more : ℕ
  pub begins : slice_get code first ≡ Some op.Open
  pub parts_ahead : AreIdleParts code subject place (first + 1) ahead calls_at names_ahead
  pub call : ReadsCall code calls_at number behind
  pub part : IsKept code behind name kept
  pub parts_more : AreIdleParts code subject place kept more closes_at names_more
  pub close : slice_get code closes_at ≡ Some (op.Close (names_ahead + bindings_of name + names_more))
  pub ends : next ≡ closes_at + 1

-- from an address on to another one stands an array or a struct of such calls of a declaration, or an optional one
abbrev pub IsBodyOf : List Op → Subject → ℕ → ℕ → ℕ → ℕ → Type 0
IsBodyOf code subject place first number next =
    IsArrayOf code subject place first number next ⊎ IsStructOf code subject place first number next ⊎ (IsOptional code first number × (next ≡ first + 6))

-- a declaration ends behind an address, where what was read is under a constraint or not
abbrev pub Ends : List Op → ℕ → Type 0
Ends code address = (last : ℕ) × IsGuarded code address last × (slice_get code last ≡ Some op.Return)

-- from an address on a declaration's code is such an array or struct, or an optional call
abbrev pub IsAround : List Op → Subject → ℕ → ℕ → ℕ → Type 0
IsAround code subject place first number = (next : ℕ) × IsBodyOf code subject place first number next × Ends code next

-- or it is a call without arguments, and no more
abbrev pub IsNamed : List Op → ℕ → ℕ → Type 0
IsNamed code first number = (slice_get code first ≡ Some (op.Call number [])) × Ends code (first + 1)

-- a declaration calls another one. That it doesn't fail is to be seen, and is then still to be seen where it is
-- just such a call
abbrev pub Links : List Op → List Entry → Subject → ℕ → Bool → ℕ → Bool → ℕ → Type 0
Links code of_entries subject place wanted number still inner =
    (entry : Entry)
    × (slice_get of_entries number ≡ Some entry)
    × ((IsAround code subject place entry.first inner × (still ≡ false)) ⊎ (IsNamed code entry.first inner × (still ≡ wanted)))

-- where calls may still be nested so deep, a call of a declaration takes no byte at a place, and doesn't fail if that is
-- wanted: it calls another one that takes none, until none may be nested; such a call fails
abbrev pub Idles : List Op → List Entry → Subject → ℕ → Bool → ℕ → ℕ → Type 0
Idles code of_entries subject place wanted zero number = wanted ≡ false
Idles code of_entries subject place wanted (suc depth) number =
    (inner : ℕ) × (still : Bool) × Links code of_entries subject place wanted number still inner × Idles code of_entries subject place still depth inner

-- arguments have values
abbrev pub HasValues : List Expr → Pairs → Type 0
HasValues args env = (values : List Arg) × (arguments args env ≡ Some values)

-- an element that takes no byte and doesn't fail is read from an address on to another one: such a call whose
-- arguments have values, or an optional one
abbrev pub IdlesTo : List Op → List Entry → Subject → ℕ → Pairs → ℕ → ℕ → ℕ → Type 0
IdlesTo code of_entries subject place env depth address next =
    ((number : ℕ)
    × (args : List Expr)
    × (slice_get code address ≡ Some (op.Call number args))
    × HasValues args env
    × Idles code of_entries subject place true depth number
    × (next ≡ address + 1))
    ⊎ ((number : ℕ) × IsOptional code address number × Idles code of_entries subject place false depth number × (next ≡ address + 6))
