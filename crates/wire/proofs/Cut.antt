-- Every proper front of what is written is refused.
use Rattle.std.proofs.Common.{[], ap}
use Rattle.std.proofs.lemmas.List.{append-nil}
use Rattle.wire.specs.Bytes.{read_question, read_request, value}
use Rattle.wire.specs.Written.{question_bytes, request_bytes}
use Rattle.wire.specs.Laws.{IsCutShort, QuestionCutShort}
use Rattle.wire.proofs.Fronts.{own_request, own-question, front-none}
use Rattle.wire.proofs.Back.{request_back, question-back}

pub request_cut : IsCutShort
request_cut rs q k few h s less =
    ap value (front-none read_request (request_bytes rs q) _ k own_request (rw (append-nil (request_bytes rs q)) at (request_back rs q [] few h s)) less)

pub question_cut : QuestionCutShort
question_cut q k s less =
    ap value (front-none read_question (question_bytes q) _ k own-question (rw (append-nil (question_bytes q)) at (question-back q [] s)) less)
