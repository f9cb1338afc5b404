use Rattle.std.proofs.Common.{refl, ap, ◌∙◌}
use Rattle.std.proofs.lemmas.Result.{err_from_is_err_and}
use Rattle.wire.specs.Bytes.{read_question, read_reports, read_request, value}
use Rattle.wire.specs.Reading.{left, reading}
use Rattle.wire.proofs.Steps.{then_read, then_short, none_from, some_from}
use Rattle.wire.proofs.read_request.Goals as goal

pub returns-in_err-reports-clause-answer : goal.returns-in_err-reports-clause-answer
unfolding read_request
returns-in_err-reports-clause-answer c =
    let e = err_from_is_err_and c.from_residual.result c.from_residual.ensures.1 in
    let n = none_from c.reports.result _ _ c.in_err-reports.ensures.value in
    rw (e.1, e.2, n.1) (ap value (then_short read_reports _ _ (c.reports.ensures ∙ ap (λ o. reading o (left c.reports.new.self)) n.0)), refl)

pub returns-in_err-question-clause-answer : goal.returns-in_err-question-clause-answer
unfolding read_request
returns-in_err-question-clause-answer c =
    let e = err_from_is_err_and c.from_residual-in_err-question.result c.from_residual-in_err-question.ensures.1 in
    let s = some_from c.reports.result _ _ c.in_ok-reports.ensures.value in
    let n = none_from c.question.result _ _ c.in_err-question.ensures.value in
    rw (e.1, e.2, n.1) (
      ap value
          (then_read read_reports _ _ _ _ (c.reports.ensures ∙ ap (λ o. reading o (left c.reports.new.self)) s)
          ∙ then_short read_question _ _ (c.question.ensures.read ∙ ap (λ o. reading o (left c.question.new.self)) n.0)),
      refl,
    )

pub returns-clause-answer : goal.returns-clause-answer
unfolding read_request
returns-clause-answer c =
    let s = some_from c.reports.result _ _ c.in_ok-reports.ensures.value in
    let n = some_from c.question.result _ _ c.in_ok-question.ensures.value in
    ap value
    (then_read read_reports _ _ _ _ (c.reports.ensures ∙ ap (λ o. reading o (left c.reports.new.self)) s)
    ∙ then_read read_question _ _ _ _ (c.question.ensures.read ∙ ap (λ o. reading o (left c.question.new.self)) n))
