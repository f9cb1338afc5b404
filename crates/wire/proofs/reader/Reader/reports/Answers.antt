use Rattle.std.proofs.Common.{◌∷◌, [], refl, ◌∙◌, arith, rules, of_calls, append-nil}
use Rattle.wire.specs.Bytes.{read_byte, read_question, read_reports}
use Rattle.wire.proofs.Steps.{then_short}
use Rattle.wire.proofs.Filling.{reports_behind, reports_many, front_whole, front-short}
use Rattle.wire.proofs.reader.Reader.reports.Goals as goal

pub returns-in_err-count : goal.returns-in_err-count
unfolding read_reports
returns-in_err-count c = rw c.from_residual.ensures (then_short read_byte _ _ c.in_err-count.ensures)

pub returns-then-count-gt8 : goal.returns-then-count-gt8
returns-then-count-gt8 c = reports_many _ _ _ _ c.in_ok-count.ensures refl (omega arith)

pub parts-requires : goal.parts-requires
parts-requires c κs = ((refl, tt), (search of_calls, ((search rules, omega arith), (50, 8, omega arith, omega arith, refl, λ r r2 o e. search rules))))

pub returns-in_err-parts : goal.returns-in_err-parts
returns-in_err-parts c =
    rw c.from_residual-in_err-parts.ensures
    (reports_behind _ _ _ _ c.in_ok-count.ensures c.from.ensures (omega arith) ∙ front-short 400 401 (c.from.result ∷ []) _ (c.in_err-parts.ensures read_question (λ r r2 o e. search rules)))

pub returns : goal.returns
returns c =
    rw (append-nil c.parts.new.room)
    (reports_behind _ _ _ _ c.in_ok-count.ensures c.from.ensures (omega arith)
    ∙ front_whole 400 401 (c.from.result ∷ []) c.parts.new.room _ _ (omega arith) (c.in_ok-parts.ensures read_question (λ r r2 o e. search rules)))
