-- The line of a node of a path: one object in compact text, its keys in the order of their bytes, and a newline.
-- The value is shown by the term to which the steps lead from the body of a record, in which calls may be nested
-- as deep as in reading. Where they lead to none within that depth, it is null.
use Rattle.std.specs.Prelude.{ℕ, List, [], ◌∷◌, ◌++◌, codes, decimal, false, Option, Some, None, option_map, option_and_then, slice_get}
use Rattle.serde_json.specs.Data.{Data, null, number, unsigned, string, object, member, no_members}
use Rattle.serde_json.specs.Written.{compact_text}
use Rattle.pads_value.specs.declared.descriptor.Pd.{Pd, out-Pd}
use Rattle.pads_value.specs.declared.value.Val.{Val}
use Rattle.pads_calc.specs.declared.decl.Decl.{Decl}
use Rattle.pads_calc.specs.declared.term.Arm.{Arm}
use Rattle.pads_calc.specs.declared.term.Case.{Case}
use Rattle.pads_calc.specs.declared.term.Part.{Part}
use Rattle.pads_calc.specs.declared.term.Seq.{Seq}
use Rattle.pads_calc.specs.declared.term.Term.{Term, Term-F, out-Term}
use Rattle.pads_calc.specs.declared.term.Term.TheVariants as term
use Rattle.pads_calc.specs.Rows.{deepest}
use Rattle.pads_module.specs.declared.module.Module.{Module}
use Rattle.pads_forms.specs.Forms.{Form, form_at}
use Rattle.pads_forms.specs.Terms.{arm_in}
use Rattle.pads_nodes.specs.declared.step.Step.{Step}
use Rattle.pads_nodes.specs.declared.step.Step.TheVariants as step
use Rattle.pads_json.specs.Faults.{span_shown}
use Rattle.pads_json.specs.Lines.{class_name, later_key}
use Rattle.pads_json.specs.Values.{shown}

-- the parts of a struct
abbrev pub parts_in : Term-F Term Arm Case Part Seq → List Part
parts_in Term-F.Unit = []
parts_in (Term-F.Base base args) = []
parts_in (Term-F.Lit literal) = []
parts_in Term-F.Eor = []
parts_in (Term-F.Struct parts) = parts
parts_in (Term-F.Alt arms) = []
parts_in (Term-F.Switch e cases) = []
parts_in (Term-F.Guard inner binder condition) = []
parts_in (Term-F.Seq s) = []
parts_in (Term-F.Call name args) = []
parts_in (Term-F.Compute e form) = []
parts_in (Term-F.Absorb inner) = []
parts_in (Term-F.Scan inner) = []

-- the parts that a form has
abbrev pub parts_formed : Option Form → List Part
parts_formed None = []
parts_formed (Some form) = parts_in (out-Term form.term)

-- the term of an array's elements
abbrev pub element_in : Term-F Term Arm Case Part Seq → Option Term
element_in Term-F.Unit = None
element_in (Term-F.Base base args) = None
element_in (Term-F.Lit literal) = None
element_in Term-F.Eor = None
element_in (Term-F.Struct parts) = None
element_in (Term-F.Alt arms) = None
element_in (Term-F.Switch e cases) = None
element_in (Term-F.Guard inner binder condition) = None
element_in (Term-F.Seq s) = Some s.elem
element_in (Term-F.Call name args) = None
element_in (Term-F.Compute e form) = None
element_in (Term-F.Absorb inner) = None
element_in (Term-F.Scan inner) = None

-- the term of the nodes to which a step leads from one of a term
abbrev pub kid_term : Step → Term-F Term Arm Case Part Seq → Option Term
kid_term (step.Part at) t = option_map (λ part. part.term) (slice_get (parts_in t) at)
kid_term (step.Arm at) t = option_map (λ arm. arm.term) (arm_in t at)
kid_term (step.Elem at) t = element_in t
kid_term step.Each t = element_in t

abbrev pub at_depth : ℕ → Term → Form
at_depth depth t = record { depth = depth; term = t }

abbrev pub kid_form : Step → Form → Option Form
kid_form next form = option_map (at_depth form.depth) (kid_term next (out-Term form.term))

-- by one step, and by several: the term, and how deep calls may still be nested in it
abbrev pub form_below : List Decl → Step → Form → Option Form
form_below decls next here = option_and_then (kid_form next) (form_at decls false here.depth here.term)

abbrev pub reached : List Decl → List Step → Form → Option Form
reached decls [] here = Some here
reached decls (next ∷ steps) here = option_and_then (reached decls steps) (form_below decls next here)

module _ (decls : List Decl) (names : List (List ℕ)) where
  abbrev pub shown_at : Val → Option Form → Data
  shown_at v None = null
  shown_at v (Some here) = shown decls names v here.depth here.term

  -- a node's value, by the steps to it from a body
  abbrev pub node_shown : List Step → Term → Val → Data
  node_shown steps body v = shown_at v (reached decls steps (at_depth deepest body))

abbrev pub node_data : ℕ → Pd → Data → Data
node_data record_number pd value =
    object (member (codes "class") (string (class_name (out-Pd pd).class))
    (member (codes "nerr") (number (unsigned (out-Pd pd).nerr))
    (member (codes "record") (number (unsigned record_number))
    (member (codes "span") (span_shown (out-Pd pd).span)
    (member (codes "value") value no_members)))))

-- a record's body is a call of its declaration
abbrev pub record_body : ℕ → Term
record_body each = term.Call each []

-- the line of a node of a record type, which is a declaration's by its number
abbrev pub node_told : List Decl → List (List ℕ) → ℕ → List Step → ℕ → Val → Pd → List ℕ
node_told decls names each steps record_number v pd =
    compact_text (node_data record_number pd (node_shown decls names steps (record_body each) v)) ++ 10 ∷ []

abbrev pub node_text : Module → List Step → ℕ → Val → Pd → List ℕ
node_text description steps record_number v pd =
    node_told description.decls description.names description.shape.each steps record_number v pd

-- ---- the same text piece by piece, for private clauses

abbrev pub node_head : ℕ → Pd → List ℕ
node_head record_number pd =
    123 ∷ 34 ∷ (codes "class" ++ 34 ∷ 58 ∷ 34 ∷ (class_name (out-Pd pd).class ++ 34 ∷ (later_key (codes "nerr") ++ (decimal (out-Pd pd).nerr
    ++ (later_key (codes "record") ++ (decimal record_number ++ (later_key (codes "span") ++ compact_text (span_shown (out-Pd pd).span))))))))
