-- Each rule has a number of its own.
use Rattle.std.proofs.Common.{◌≡◌, ◌∙◌, sym, ap, refl, List, [], ◌∷◌, Some, slice_get}
use Rattle.pads_rules.specs.declared.rule.Rule.{Rule}
use Rattle.pads_rules.specs.declared.rule.Rule.TheVariants as rule
use Rattle.pads_rules.specs.Rules.{number}

-- the rules in the order of their numbers, behind one that stands for number 0
abbrev numbered : List Rule
numbered = rule.NameTaken ∷ rule.NameTaken ∷ rule.UnknownType ∷ rule.LaterType ∷ rule.NameAgain ∷ rule.UnknownName ∷ rule.LaterField ∷ rule.ArgumentCount ∷ rule.ArgumentSort ∷ rule.OperandSort ∷ rule.ConditionSort ∷ rule.OtherName ∷ rule.CaseSort ∷ rule.CaseAgain ∷ rule.EmptyLiteral ∷ rule.SpellingAgain ∷ rule.UnknownMember ∷ rule.UnknownChoice ∷ rule.ComputedType ∷ rule.ParameterType ∷ rule.RecordTypeNamed ∷ rule.MarkedWithParameters ∷ rule.MisplacedSource ∷ rule.NoRecordType ∷ rule.Limit ∷ rule.MisplacedPrecursive ∷ []

at-number : (r : Rule) → slice_get numbered (number r) ≡ Some r
unfolding number
at-number rule.NameTaken = refl
at-number rule.UnknownType = refl
at-number rule.LaterType = refl
at-number rule.NameAgain = refl
at-number rule.UnknownName = refl
at-number rule.LaterField = refl
at-number rule.ArgumentCount = refl
at-number rule.ArgumentSort = refl
at-number rule.OperandSort = refl
at-number rule.ConditionSort = refl
at-number rule.OtherName = refl
at-number rule.CaseSort = refl
at-number rule.CaseAgain = refl
at-number rule.EmptyLiteral = refl
at-number rule.SpellingAgain = refl
at-number rule.UnknownMember = refl
at-number rule.UnknownChoice = refl
at-number rule.ComputedType = refl
at-number rule.ParameterType = refl
at-number rule.RecordTypeNamed = refl
at-number rule.MarkedWithParameters = refl
at-number rule.MisplacedSource = refl
at-number rule.NoRecordType = refl
at-number rule.Limit = refl
at-number rule.MisplacedPrecursive = refl

pub one-rule : (a b : Rule) → number a ≡ number b → a ≡ b
one-rule a b e = let same : Some a ≡ Some b = sym (at-number a) ∙ ap (slice_get numbered) e ∙ at-number b in cc
