-- The words that tell why a question is refused.
use Rattle.std.specs.Prelude.{ℕ, List, [], ◌∷◌, ◌++◌, codes}
use Rattle.pads_describe.specs.VerdictLines.{kind_words, with_number}
use Rattle.pads_path.specs.Resolving.{reason_name}
use Rattle.pads_rules.specs.Rules.{number}
use Rattle.pads_question.specs.declared.fault.FilterError.{FilterError}
use Rattle.pads_question.specs.declared.fault.FilterError.TheVariants as filter
use Rattle.pads_question.specs.declared.fault.PathError.{PathError}
use Rattle.pads_question.specs.declared.fault.PathError.TheVariants as path
use Rattle.pads_question.specs.declared.fault.QuestionFault.{QuestionFault}
use Rattle.pads_question.specs.declared.fault.QuestionFault.TheVariants as question

-- what is wrong, and where: bytes and tokens are counted from 0, steps from 1
abbrev pub path_reason : PathError → List ℕ
path_reason (path.Lexical kind at) = (codes "path lexical " ++ kind_words kind) ++ with_number (codes " at byte ") at
path_reason (path.Syntax token at) = with_number (codes "path syntax at token ") token ++ with_number (codes " byte ") at
path_reason (path.Step fault) = (with_number (codes "path step ") fault.step ++ codes " ") ++ reason_name fault.reason

abbrev pub filter_reason : FilterError → List ℕ
filter_reason (filter.Lexical kind at) = (codes "filter lexical " ++ kind_words kind) ++ with_number (codes " at byte ") at
filter_reason (filter.Syntax token at) = with_number (codes "filter syntax at token ") token ++ with_number (codes " byte ") at
filter_reason (filter.Rule rule at) = with_number (codes "filter rule ") (number rule) ++ with_number (codes " at byte ") at

abbrev pub question_reason : QuestionFault → List ℕ
question_reason (question.Path error) = path_reason error
question_reason (question.Filter error) = filter_reason error

-- the last line of a run that refuses a question
abbrev pub question_line : QuestionFault → List ℕ
question_line fault = codes "pads: refused: " ++ question_reason fault ++ 10 ∷ []
