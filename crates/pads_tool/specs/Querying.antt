-- What the command `query` does: a line for each node to which the path leads from the body of a record, and that the filter
-- keeps. A header has no such nodes.
use Rattle.std.specs.Prelude.{ℕ, ◌==◌, ◌&&◌, Bool, true, false, if◌then◌else◌, List, [], Option, Some, None, IfSome}
use Rattle.std.specs.List.{filter, flat_map, list_all}
use Rattle.std.specs.Option.{is_some}
use Rattle.pads_ast.specs.declared.decl.Ast.{Ast}
use Rattle.pads_calc.specs.declared.decl.Shape.{Shape}
use Rattle.pads_code.specs.declared.Coding.{Coding}
use Rattle.pads_describe.specs.Trees.{IsAccepted}
use Rattle.pads_drive.specs.Outputs.{Work}
use Rattle.pads_expr.specs.declared.expr.Expr.{Expr}
use Rattle.pads_question.specs.Filters.{holds}
use Rattle.pads_json.specs.NodeLines.{node_told}
use Rattle.pads_mask.specs.Masks.{masked}
use Rattle.pads_erase.specs.declared.mask.Mask.{Mask}
use Rattle.pads_module.specs.Modules.{Contents}
use Rattle.pads_nodes.specs.Nodes.{Node, row_nodes}
use Rattle.pads_orders.specs.declared.order.Question.{Question}
use Rattle.pads_question.specs.Questions.{IsAsked, IsNotAsked}
use Rattle.pads_question.specs.declared.asked.Asked.{Asked}
use Rattle.pads_question.specs.declared.fault.QuestionFault.{QuestionFault}
use Rattle.pads_value.specs.declared.row.Row.{Row}
use Rattle.pads_tool.specs.Describing.{is_clean, row_in}
use Rattle.pads_tool.specs.Images.{HasImage, HasNoImage}
use Rattle.pads_tool.specs.Masking.{CanBeMasked, IsBounded, IsMaskedIn, IsUnmaskedIn, Preparation}
use Rattle.pads_tool.specs.Texts.{IsRefusedIn}
use Rattle.pads_tool.specs.declared.reason.Reason.{Reason}
use Rattle.pads_tool.specs.declared.reason.Reason.TheVariants as reason

-- The first record is a header, where the source has one.
abbrev pub is_header : Shape → ℕ → Bool
is_header shape number = number == 0 && is_some shape.head

-- Without a filter each node is kept.
abbrev pub is_kept : Option Expr → Node → Bool
is_kept None node = true
is_kept (Some e) node = holds e node.0

module _ (m : Contents) (asked : Asked) where
  -- the line of a node of the record of this number
  abbrev pub node_line : ℕ → Node → List ℕ
  node_line number node = node_told m.decls m.names m.shape.each asked.steps number node.0 node.1

  -- the lines of these nodes of a record, in order
  abbrev pub lines_of : ℕ → List Node → List ℕ
  lines_of number nodes = flat_map (node_line number) (filter (is_kept asked.filter) nodes)

  -- those of a record
  abbrev pub answer_to : Row → List ℕ
  answer_to row = if is_header m.shape row.number then [] else lines_of row.number (row_nodes asked.steps row)

  -- What `query` makes of the records of an input. It learns whether all are clean, of however many.
  abbrev pub answers : Work Row Bool
  answers = record { row = row_in m; out = answer_to; notes = λ row. []; tally = list_all is_clean; is_over = λ rows. false }

-- A module isn't asked for this reason.
abbrev pub IsQuestionFault : Ast → Contents → Question → Reason → Type 0
IsQuestionFault tree m asks (reason.Question fault) = IsNotAsked tree m asks.path asks.filter fault
IsQuestionFault tree m asks (reason.Description verdict) = ⊥
IsQuestionFault tree m asks (reason.MaskItem item) = ⊥
IsQuestionFault tree m asks reason.ImageTooLarge = ⊥
IsQuestionFault tree m asks reason.SummaryTooLarge = ⊥

-- For this reason, or else since it has no image.
abbrev pub IsUnaskedOf : Ast → Contents → Question → Reason → Type 0
IsUnaskedOf tree m asks (reason.Question fault) = IsNotAsked tree m asks.path asks.filter fault
IsUnaskedOf tree m asks reason.ImageTooLarge = (asked : Asked) × IsAsked tree m asks.path asks.filter asked × HasNoImage m
IsUnaskedOf tree m asks (reason.Description verdict) = ⊥
IsUnaskedOf tree m asks (reason.MaskItem item) = ⊥
IsUnaskedOf tree m asks reason.SummaryTooLarge = ⊥

-- Why there is nothing to ask: there is no module, or else the path or the filter doesn't suit it, or else it has no image.
module _ (content : Option (List ℕ)) (coding : Coding) (mask : Mask) (asks : Question) where
  -- The question asks this by the description in the file, read by this module.
  abbrev pub IsAskedIn : Asked → Contents → Type 0
  IsAskedIn asked made = IsMaskedIn content coding mask made
      × IfSome content (λ text. (tree : Ast) × IsAccepted text tree × IsAsked tree made asks.path asks.filter asked)

  abbrev pub IsNotAskedIn : QuestionFault → Type 0
  IsNotAskedIn fault = (made : Contents) × IsMaskedIn content coding mask made
      × IfSome content (λ text. (tree : Ast) × IsAccepted text tree × IsNotAsked tree made asks.path asks.filter fault)

  abbrev pub IsUnaskedFor : Reason → Type 0
  IsUnaskedFor (reason.Description verdict) = IsRefusedIn content verdict
  IsUnaskedFor (reason.MaskItem item) = IsUnmaskedIn content coding mask item
  IsUnaskedFor (reason.Question fault) = IsNotAskedIn fault
  IsUnaskedFor reason.ImageTooLarge = (asked : Asked) × (made : Contents) × IsAskedIn asked made × HasNoImage made
  IsUnaskedFor reason.SummaryTooLarge = ⊥

  -- There is a module, and the question asks something by it.
  pub record CanBeAsked : Type 0 where
    pub can_make : CanBeMasked content coding mask
    pub tree : Ast
    pub accepted : IsAccepted can_make.text tree
    pub asked : Asked
    pub is : IsAsked tree (masked can_make.whole mask) asks.path asks.filter asked

-- How a query comes by its module and by what it asks.
abbrev pub asking : Coding → Mask → ℕ → Question → Asked → Preparation
asking coding mask scan asks asked = record {
  is_made = λ content made. IsBounded scan (λ whole. IsAskedIn content coding mask asks asked whole × HasImage whole) made;
  refused_for = λ content why. IsUnaskedFor content coding mask asks why;
  can_make = λ content. CanBeAsked content coding mask asks;
}
