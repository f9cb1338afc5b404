use Rattle.std.proofs.Common.{◌∷◌, [], refl, ◌∙◌, arith, rules, of_calls, append-nil}
use Rattle.wire.specs.Bytes.{read_byte, read_term, read_row}
use Rattle.wire.proofs.Steps.{then_short}
use Rattle.wire.proofs.Filling.{row-behind, front_whole, front-short}
use Rattle.wire.proofs.reader.Reader.row.Goals as goal

pub returns-in_err-count : goal.returns-in_err-count
unfolding read_row
returns-in_err-count c = rw c.from_residual.ensures (then_short read_byte _ _ c.in_err-count.ensures)

pub parts-requires : goal.parts-requires
parts-requires c κs = ((refl, tt), (search of_calls, ((refl, omega arith), (2, 4, omega arith, omega arith, refl, λ r r2 o e. search rules))))

pub returns-in_err-parts : goal.returns-in_err-parts
returns-in_err-parts c =
    rw c.from_residual-in_err-parts.ensures
    (row-behind _ _ _ _ c.in_ok-count.ensures c.from.ensures ∙ front-short 8 9 (c.from.result ∷ []) _ (c.in_err-parts.ensures read_term (λ r r2 o e. search rules)))

pub returns : goal.returns
returns c =
    rw (append-nil c.parts.new.room)
    (row-behind _ _ _ _ c.in_ok-count.ensures c.from.ensures ∙ front_whole 8 9 (c.from.result ∷ []) c.parts.new.room _ _ (omega arith) (c.in_ok-parts.ensures read_term (λ r r2 o e. search rules)))
