use Rattle.std.proofs.Common.{◌∷◌, [], ◌++◌, refl, ◌∙◌, arith, rules, of_calls}
use Rattle.wire.specs.Bytes.{read_byte, read_row, read_line, read_question}
use Rattle.wire.proofs.Steps.{then_read, then_short}
use Rattle.wire.proofs.Filling.{question-behind, question-whole, front-short}
use Rattle.wire.proofs.reader.Reader.question.Goals as goal

pub returns-in_err-row-clause-read : goal.returns-in_err-row-clause-read
unfolding read_question
returns-in_err-row-clause-read c = rw c.from_residual.ensures (then_short read_row _ _ c.in_err-row.ensures)

pub returns-in_err-count-clause-read : goal.returns-in_err-count-clause-read
unfolding read_question
returns-in_err-count-clause-read c =
    rw c.from_residual-in_err-count.ensures
    (then_read read_row _ _ _ _ c.in_ok-row.ensures ∙ then_short read_byte _ _ c.in_err-count.ensures)

pub parts-requires : goal.parts-requires
parts-requires c κs = ((refl, tt), (search of_calls, ((refl, omega arith), (10, 4, omega arith, omega arith, refl, λ r r2 o e. search rules))))

pub returns-in_err-parts-clause-read : goal.returns-in_err-parts-clause-read
returns-in_err-parts-clause-read c =
    rw c.from_residual-in_err-parts.ensures
    (question-behind _ _ _ _ (c.in_ok-row.row ++ c.in_ok-count.count ∷ []) _ c.in_ok-row.ensures c.in_ok-count.ensures refl
    ∙ front-short 40 50 (c.in_ok-row.row ++ c.in_ok-count.count ∷ []) _ (c.in_err-parts.ensures read_line (λ r r2 o e. search rules)))

pub returns-clause-read : goal.returns-clause-read
returns-clause-read c =
    question-behind _ _ _ _ (c.in_ok-row.row ++ c.in_ok-count.count ∷ []) _ c.in_ok-row.ensures c.in_ok-count.ensures refl
    ∙ question-whole c.in_ok-row.row c.copy_from_slice.new.self c.parts.new.room _ c.in_ok-count.count c.from.result _ c.copy_from_slice.ensures.after
    c.copy_from_slice.ensures.len c.from.ensures (c.in_ok-parts.ensures read_line (λ r r2 o e. search rules))
