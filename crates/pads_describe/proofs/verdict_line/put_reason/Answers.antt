use Rattle.std.proofs.Common.{◌++◌, ◌∙◌, ap, codes}
use Rattle.pads_rules.specs.Rules.{number}
use Rattle.pads_describe.specs.VerdictLines.{kind_words, with_number}
use Rattle.pads_describe.proofs.JoinedWords.{two}
use Rattle.pads_describe.proofs.verdict_line.put_reason.Goals as goal

pub returns-in-Lexical-clause-put : goal.returns-in-Lexical-clause-put
returns-in-Lexical-clause-put c =
    let line = c.args.line.now.items in
    let word = c.put-in-Lexical-2.ensures.put ∙ ap (λ w. c.put-in-Lexical.new.line.items ++ w) c.kind_word.ensures.word in
    let words = two line _ _ (codes "description lexical ") (kind_words c.in-Lexical.kind) c.put-in-Lexical.ensures.put word in
    rw c.in-Lexical.is (two line _ _ (codes "description lexical " ++ kind_words c.in-Lexical.kind) (with_number (codes " at byte ") c.in-Lexical.at) words c.put_place.ensures.put)

pub returns-in-Syntax-clause-put : goal.returns-in-Syntax-clause-put
returns-in-Syntax-clause-put c =
    rw c.in-Syntax.is
    (two c.args.line.now.items _ _ (with_number (codes "description syntax at token ") c.in-Syntax.token) (with_number (codes " byte ") c.in-Syntax.at)
    c.put_place-in-Syntax.ensures.put c.put_place-in-Syntax-2.ensures.put)

pub returns-in-Rule-clause-put : goal.returns-in-Rule-clause-put
returns-in-Rule-clause-put c =
    let line = c.args.line.now.items in
    let number_put = c.put_place-in-Rule.ensures.put ∙ ap (λ n. line ++ with_number (codes "description rule ") n) (c.from.ensures ∙ c.number.ensures.number) in
    rw c.in-Rule.is
    (two line _ _ (with_number (codes "description rule ") (number c.in-Rule.rule)) (with_number (codes " at byte ") c.in-Rule.at) number_put c.put_place-in-Rule-2.ensures.put)
