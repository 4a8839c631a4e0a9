-- What is open where the reading of code has come: the declarations so far, and around the address the
-- constructs that have begun, with what was read of them.
use Rattle.std.specs.Prelude.{ℕ, List, Option}
use Rattle.pads_expr.specs.declared.expr.Expr.{Expr}
use Rattle.pads_calc.specs.declared.term.Arm.{Arm}
use Rattle.pads_calc.specs.declared.term.Case.{Case}
use Rattle.pads_calc.specs.declared.term.Part.{Part}
use Rattle.pads_calc.specs.declared.term.Term.{Term}
use Rattle.pads_image.specs.declared.op.Target.{Target}

-- a declaration's body, and the address where its code begins
pub record Body : Type 0 where
  pub first : ℕ
  pub term : Term

-- a branch, and the address that it names as the end
pub record Tried : Type 0 where
  pub arm : Arm
  pub to : ℕ

-- an array's first two instructions: the address of the second, and what both say
pub record Head : Type 0 where
  pub full : ℕ
  pub size : Option Expr
  pub end : ℕ
  pub last : Option Expr
  pub elts : ℕ
  pub shut : ℕ

pub data Opened : Type 0 where
  -- the code as a whole; the next declaration begins at this address
  Decls : (done : List Body) (first : ℕ) → Opened
  Struct : (parts : List Part) → Opened
  Alt : (arms : List Tried) → Opened
  -- the cases that are still to come, the address behind them, and where the next one begins
  Switch : (e : Expr) (left : List Target) (end : ℕ) (next : ℕ) (cases : List Case) → Opened
  -- the address of the term that is looked for
  Scan : (inner : ℕ) → Opened
  -- an array whose second instruction is due
  Sized : (full : ℕ) (size : Option Expr) (end : ℕ) → Opened
  -- the terminator, or behind it the test of the record's end
  Filled : (head : Head) (stop : Option Term) → Opened
  Stopping : (head : Head) → Opened
  -- a turn is due
  Edged : (head : Head) (stop : Option Term) → Opened
  -- the separator, behind which the element begins at this address
  Separating : (head : Head) (stop : Option Term) (elem : ℕ) → Opened
  -- the element
  Taking : (head : Head) (stop : Option Term) (sep : Option Term) → Opened
  -- the array's end
  Shutting : (head : Head) (stop : Option Term) (sep : Option Term) (elem : Term) → Opened

-- where the reading has come: the rest of the innermost construct is due, or a whole term was read in it
pub data State : Type 0 where
  Due : (open_ : List Opened) → State
  Whole : (term : Term) (open_ : List Opened) → State
