-- The lent numbers of a question and of reports are read as the same question and the same reports.
use Rattle.std.proofs.Common.{[], sym, ap, ◌∙◌}
use Rattle.std.proofs.lemmas.List.{append-nil}
use Rattle.question.specs.Layout.{question_in, question_out}
use Rattle.question.specs.Reports.{reports_in, reports_out}
use Rattle.question.proofs.Back.{reads_back, reports_read_back}
use Rattle.wire.specs.Laws.{SameRequest}
use Rattle.wire.proofs.Back.{has_room}

pub request_same : SameRequest
request_same rs q h k =
    (ap reports_in (sym (append-nil (reports_out rs))) ∙ reports_read_back rs (λ r i. has_room r (h r i)) [], ap question_in (sym (append-nil (question_out q))) ∙ reads_back q (has_room q k) [])
