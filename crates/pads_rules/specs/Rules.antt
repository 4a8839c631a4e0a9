-- The rules of descriptions have numbers, by which they are told.
use Rattle.std.specs.Prelude.{ℕ}
use Rattle.pads_rules.specs.declared.rule.Rule.{Rule}
use Rattle.pads_rules.specs.declared.rule.Rule.TheVariants as rule

unfoldable pub number : Rule → ℕ
number rule.NameTaken = 1
number rule.UnknownType = 2
number rule.LaterType = 3
number rule.NameAgain = 4
number rule.UnknownName = 5
number rule.LaterField = 6
number rule.ArgumentCount = 7
number rule.ArgumentSort = 8
number rule.OperandSort = 9
number rule.ConditionSort = 10
number rule.OtherName = 11
number rule.CaseSort = 12
number rule.CaseAgain = 13
number rule.EmptyLiteral = 14
number rule.SpellingAgain = 15
number rule.UnknownMember = 16
number rule.UnknownChoice = 17
number rule.ComputedType = 18
number rule.ParameterType = 19
number rule.RecordTypeNamed = 20
number rule.MarkedWithParameters = 21
number rule.MisplacedSource = 22
number rule.NoRecordType = 23
number rule.Limit = 24
number rule.MisplacedPrecursive = 25
