-- What a query asks, before memory is taken for it.
use Rattle.std.specs.Prelude.{option_copied}
use Rattle.pads_orders.specs.declared.order.Question.{Question}
use Rattle.pads_orders.specs.declared.reading.QuestionWords.{QuestionWords}

abbrev pub question_told : QuestionWords → Question
question_told words = record { description = words.description.now; path = words.path.now; filter = option_copied words.filter }
