-- Rows of filters, computed on their definitions: names by how many `Pforall`s are around them, and sorts of nodes.
use Rattle.std.proofs.Common.{◌≡◌, refl, ℕ, pos, true, false, List, [], ◌∷◌, codes, Some, None}
use Rattle.pads_rules.specs.declared.declared.Content.TheVariants as content
use Rattle.pads_rules.specs.declared.declared.Declared.{Declared}
use Rattle.pads_rules.specs.declared.declared.Named.{Named}
use Rattle.pads_rules.specs.declared.expr_sort.ExprSort.{ExprSort}
use Rattle.pads_rules.specs.declared.expr_sort.ExprSort.TheVariants as expr_sort
use Rattle.pads_rules.specs.declared.sort.Form.TheVariants as form
use Rattle.pads_rules.specs.Sorts.{num, plain, optional}
use Rattle.pads_rules.specs.Texts.{same_text}
use Rattle.pads_syntax_path.specs.declared.path.PathStep.{PathStep}
use Rattle.pads_syntax_path.specs.declared.path.PathStep.TheVariants as path
use Rattle.pads_question.specs.Filters.{it, node_sort}
use Rattle.pads_question.specs.Levels.{level_of}

-- in the body of `Pforall(i in ..)` within that of another one whose variable is `i` too
inner : level_of (codes "i" ∷ codes "i" ∷ it ∷ []) (codes "i") ≡ 2
unfolding same_text
inner = refl

outer : level_of (codes "j" ∷ codes "i" ∷ it ∷ []) (codes "i") ≡ 1
unfolding same_text
outer = refl

value : level_of (codes "j" ∷ codes "i" ∷ it ∷ []) it ≡ 0
unfolding same_text
value = refl

-- `Pforall(it ..)` hides the value
hidden : level_of (it ∷ it ∷ []) it ≡ 1
unfolding same_text
hidden = refl

abbrev type_of : List ℕ → ExprSort → List Named → Declared
type_of name sort fields = record { name = name; mark = None; record_list = false; params = []; sort = sort; content = content.Fields fields }

-- a struct of a number `x` and an optional number `y`
abbrev env : List Declared
env =
    type_of (codes "r") (plain (form.Struct 0)) (record { text = codes "x"; sort = num } ∷ record { text = codes "y"; sort = optional num } ∷ []) ∷ []

of-the-record : node_sort env 0 [] ≡ plain (form.Struct 0)
unfolding node_sort
of-the-record = refl

of-a-field : node_sort env 0 (path.Name (codes "x") ∷ []) ≡ num
unfolding node_sort same_text
of-a-field = refl

of-some : node_sort env 0 (path.Name (codes "y") ∷ path.Name (codes "some") ∷ []) ≡ num
unfolding node_sort same_text
of-some = refl

of-none : node_sort env 0 (path.Name (codes "y") ∷ path.Name (codes "none") ∷ []) ≡ expr_sort.Nothing
unfolding node_sort same_text
of-none = refl
