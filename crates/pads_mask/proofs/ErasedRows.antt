-- Rows of erasing, computed on the definition. Declaration 0 is a struct of a number, a literal, and values of
-- the declarations 1 and 2; declaration 1 is a label or nothing, declaration 2 an array of texts.
use Rattle.std.proofs.Common.{◌≡◌, ◌∙◌, refl, ℕ, suc, pos, Bool, true, false, List, [], ◌∷◌}
use Rattle.pads_value.specs.declared.value.Val.{Val}
use Rattle.pads_value.specs.declared.value.Val.TheVariants as val
use Rattle.pads_erase.specs.declared.skeleton.Keeping.{Keeping}
use Rattle.pads_erase.specs.declared.skeleton.Skeleton.{Skeleton}
use Rattle.pads_erase.specs.declared.skeleton.Skeleton.TheVariants as skeleton
use Rattle.pads_erase.specs.Erasing.{erased}
use Rattle.pads_erase.proofs.Rolls.{erase_rules, erased-suc, erased-zero}

abbrev keeps : Bool → Skeleton → Keeping
keeps set s = record { set = set; skeleton = s }

abbrev outer : Skeleton
outer = skeleton.List (skeleton.Leaf ∷ skeleton.Nothing ∷ skeleton.Ref 1 ∷ skeleton.Ref 2 ∷ [])

abbrev choice : Skeleton
choice = skeleton.Arms (skeleton.Leaf ∷ skeleton.Nothing ∷ [])

abbrev texts : Skeleton
texts = skeleton.Each skeleton.Leaf

-- which of the three keep their values
abbrev keepings : (first second third : Bool) → List Keeping
keepings first second third = keeps first outer ∷ keeps second choice ∷ keeps third texts ∷ []

abbrev record_of : Val → Val → List Val → Val
record_of number choice elements = val.Tuple (number ∷ val.Unit ∷ choice ∷ val.Array elements ∷ [])

abbrev seven : Val
seven = val.Num (pos 7)

abbrev label : Val
label = val.Branch 0 (val.Enum 2)

abbrev absent : Val
absent = val.Branch 1 val.Unit

abbrev two : List Val
two = val.Text (97 ∷ []) ∷ val.Text [] ∷ []

-- a union and an array by themselves
choice_row : (first third : Bool) (depth : ℕ) → erased (keepings first false third) (suc depth) 1 label ≡ val.Branch 0 val.Missing
choice_row first third depth =
    erased-suc (keepings first false third) depth 1 label ∙ simp (erase_rules, val.outs-Branch, val.outs-Enum)

absent_row : (first third : Bool) (depth : ℕ) → erased (keepings first false third) (suc depth) 1 absent ≡ absent
absent_row first third depth = erased-suc (keepings first false third) depth 1 absent ∙ simp (erase_rules, val.outs-Branch)

kept_choice_row : (first third : Bool) (depth : ℕ) → erased (keepings first true third) (suc depth) 1 label ≡ label
kept_choice_row first third depth = erased-suc (keepings first true third) depth 1 label ∙ simp (erase_rules, val.outs-Branch)

array_row : (first second : Bool) (depth : ℕ) → erased (keepings first second false) (suc depth) 2 (val.Array two) ≡ val.Array (val.Missing ∷ val.Missing ∷ [])
array_row first second depth = erased-suc (keepings first second false) depth 2 (val.Array two) ∙ simp (erase_rules, val.outs-Array, val.outs-Text)

kept_array_row : (first second : Bool) (depth : ℕ) → erased (keepings first second true) (suc depth) 2 (val.Array two) ≡ val.Array two
kept_array_row first second depth = erased-suc (keepings first second true) depth 2 (val.Array two) ∙ simp (erase_rules, val.outs-Array)

-- The first keeps none of its own: those of the others stay.
own_row : erased (keepings false true true) 128 0 (record_of seven label two) ≡ record_of val.Missing label two
own_row =
    erased-suc (keepings false true true) 127 0 (record_of seven label two)
    ∙ simp (erase_rules, val.outs-Tuple, val.outs-Num, kept_choice_row false true 126, kept_array_row false true 126)

-- The others keep none of their own: that of the first stays.
others_row : erased (keepings true false false) 128 0 (record_of seven label two) ≡ record_of seven (val.Branch 0 val.Missing) (val.Missing ∷ val.Missing ∷ [])
others_row =
    erased-suc (keepings true false false) 127 0 (record_of seven label two)
    ∙ simp (erase_rules, val.outs-Tuple, choice_row true false 126, array_row true false 126)

-- None keeps any; what stands for no data stays, and so does what is missing.
none_row : erased (keepings false false false) 128 0 (record_of val.Missing absent []) ≡ record_of val.Missing absent []
none_row =
    erased-suc (keepings false false false) 127 0 (record_of val.Missing absent [])
    ∙ simp (erase_rules, val.outs-Tuple, val.outs-Missing, absent_row false false 126, empty_row)
  where
    empty_row : erased (keepings false false false) 127 2 (val.Array []) ≡ val.Array []
    empty_row = erased-suc (keepings false false false) 126 2 (val.Array []) ∙ simp (erase_rules, val.outs-Array)

-- Behind the last reference nothing is erased.
deep_row : erased (keepings false false false) 1 0 (record_of seven label two) ≡ record_of val.Missing label two
deep_row = erased-suc (keepings false false false) 0 0 (record_of seven label two) ∙ simp (erase_rules, val.outs-Tuple, val.outs-Num, erased-zero)
