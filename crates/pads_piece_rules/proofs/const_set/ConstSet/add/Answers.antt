use Rattle.std.proofs.Common.{refl}
use Rattle.std.proofs.lemmas.Result.{on_ok_weaker}
use Rattle.pads_piece_rules.proofs.ConstLemmas.{word-added}
use Rattle.pads_piece_rules.proofs.const_set.ConstSet.add.Goals as goal

pub returns-in-Word-clause-added : goal.returns-in-Word-clause-added
returns-in-Word-clause-added c =
    rw c.in-Word.is
    (on_ok_weaker c.add_word.result (λ added. word-added c.args.self.now (record { numbers = c.args.self.now.numbers; words = c.add_word.new.words }) c.in-Word.word added refl) c.add_word.ensures.added)
