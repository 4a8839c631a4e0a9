-- The line of a record: one object in compact text, its keys in the order of their bytes, and a newline.
use Rattle.std.specs.Prelude.{ℕ, List, [], ◌∷◌, ◌++◌, codes, decimal, Some}
use Rattle.serde_json.specs.Data.{Data, number, unsigned, string, array, object, member, no_members}
use Rattle.serde_json.specs.View.{items_of}
use Rattle.serde_json.specs.Written.{compact_text}
use Rattle.pads_value.specs.declared.descriptor.Class.{Class}
use Rattle.pads_value.specs.declared.descriptor.Class.TheVariants as class
use Rattle.pads_value.specs.declared.descriptor.Pd.{Pd, out-Pd}
use Rattle.pads_value.specs.declared.row.Row.{Row}
use Rattle.pads_value.specs.declared.value.Val.{Val}
use Rattle.pads_calc.specs.declared.decl.Decl.{Decl}
use Rattle.pads_calc.specs.declared.decl.Shape.{Shape}
use Rattle.pads_module.specs.declared.module.Module.{Module}
use Rattle.pads_calc.specs.declared.term.Term.{Term}
use Rattle.pads_calc.specs.declared.term.Term.TheVariants as term
use Rattle.pads_calc.specs.Rows.{deepest, type_of}
use Rattle.pads_json.specs.Faults.{own_fault, span_shown, faults}
use Rattle.pads_json.specs.Values.{shown}

abbrev pub class_name : Class → List ℕ
class_name class.Ok = codes "Ok"
class_name class.Err = codes "Err"
class_name class.Fail = codes "Fail"

-- a record's body is a call of its declaration
abbrev pub body_of : Shape → ℕ → Term
body_of shape record_number = term.Call (type_of shape record_number) []

-- the fault of the node that tells of bytes left over
abbrev pub extra_fault : List Pd → List Data
extra_fault [] = []
extra_fault (extra ∷ more) = own_fault (codes ".") (out-Pd extra).cause (out-Pd extra).span

-- the members of a line, with what was told of the class, the faults, the extent and the value
abbrev pub line_data : Row → Data → Data → Data → Data → Data
line_data row class faults span value =
    object (member (codes "class") class
    (member (codes "faults") faults
    (member (codes "nerr") (number (unsigned (out-Pd row.pd).nerr))
    (member (codes "next") (number (unsigned row.next))
    (member (codes "record") (number (unsigned row.number))
    (member (codes "span") span
    (member (codes "value") value no_members)))))))

module _ (decls : List Decl) (names : List (List ℕ)) where
  abbrev pub body_faults : Term → Val → List Pd → List Data
  body_faults body v [] = []
  body_faults body v (kid ∷ kids) = faults decls names kid [] (Some v) deepest body ++ extra_fault kids

  -- the record's node and the node of bytes left over stand at `.`
  abbrev pub row_faults : Term → Val → Pd → List Data
  row_faults body v pd = own_fault (codes ".") (out-Pd pd).cause (out-Pd pd).span ++ body_faults body v (out-Pd pd).kids

  abbrev pub row_data : Term → Row → Data
  row_data body row =
      line_data row (string (class_name (out-Pd row.pd).class)) (array (items_of (row_faults body row.value row.pd)))
      (span_shown (out-Pd row.pd).span) (shown decls names row.value deepest body)

  abbrev pub line_told : Shape → Row → List ℕ
  line_told shape row = compact_text (row_data (body_of shape row.number) row) ++ 10 ∷ []

-- ---- the same text piece by piece, for private clauses

-- a key in quotes, with its colon, behind a comma
abbrev pub later_key : List ℕ → List ℕ
later_key key = 44 ∷ 34 ∷ (key ++ 34 ∷ 58 ∷ [])

abbrev pub head_text : Class → List Data → List ℕ
head_text class faults =
    123 ∷ 34 ∷ (codes "class" ++ 34 ∷ 58 ∷ 34 ∷ (class_name class ++ 34 ∷ (later_key (codes "faults") ++ compact_text (array (items_of faults)))))

abbrev pub counts_text : Row → List ℕ
counts_text row =
    later_key (codes "nerr") ++ (decimal (out-Pd row.pd).nerr ++ (later_key (codes "next") ++ (decimal row.next
    ++ (later_key (codes "record") ++ (decimal row.number ++ (later_key (codes "span") ++ compact_text (span_shown (out-Pd row.pd).span)))))))

abbrev pub row_text : List Decl → List (List ℕ) → Term → Row → List ℕ
row_text decls names body row =
    head_text (out-Pd row.pd).class (row_faults decls names body row.value row.pd)
    ++ (counts_text row ++ (later_key (codes "value") ++ (compact_text (shown decls names row.value deepest body) ++ 125 ∷ [])))

-- ---- the line of a row of a module

abbrev pub row_line : Module → Row → List ℕ
row_line description row = line_told description.decls description.names description.shape row
