use Rattle.std.proofs.Common.{◌≡◌, get_or, vec_items, string_bytes}
use Rattle.std.proofs.lemmas.Result.{IfOk-weaker}
use Rattle.rows_from_files.specs.Printed.{answer_text, Printed}
use Rattle.rows_from_files.proofs.Told.{told}
use Rattle.rows_from_files.proofs.text.answer_text.Goals as goal

pub returns : goal.returns
returns c =
    let question = c.args.question.now in
    let tables = c.args.tables.now in
    let answer = c.in_ok-answered.answered.answer in
    let out = vec_items c.in_ok-answered.answered.out in
    IfOk-weaker c.answered_text.result (λ text. string_bytes text ≡ answer_text (get_or question 0 0) out answer) (λ text. Printed question tables (string_bytes text))
    (λ text. told question tables out answer (string_bytes text) c.in_ok-answered.ensures) c.answered_text.ensures
