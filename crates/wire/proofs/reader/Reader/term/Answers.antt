use Rattle.std.proofs.Common.{◌∙◌}
use Rattle.wire.specs.Bytes.{read_byte, read_number, read_term}
use Rattle.wire.proofs.Steps.{then_read, then_short}
use Rattle.wire.proofs.reader.Reader.term.Goals as goal

pub returns-in_err-kind-clause-read : goal.returns-in_err-kind-clause-read
unfolding read_term
returns-in_err-kind-clause-read c = rw c.from_residual.ensures (then_short read_byte _ _ c.in_err-kind.ensures)

pub returns-in_err-number-clause-read : goal.returns-in_err-number-clause-read
unfolding read_term
returns-in_err-number-clause-read c =
    rw c.from_residual-in_err-number.ensures
    (then_read read_byte _ _ _ _ c.in_ok-kind.ensures ∙ then_short read_number _ _ c.in_err-number.ensures)

pub returns-clause-read : goal.returns-clause-read
unfolding read_term
returns-clause-read c =
    rw (c.from.ensures, c.from-2.ensures)
    (then_read read_byte _ _ _ _ c.in_ok-kind.ensures ∙ then_read read_number _ _ _ _ c.in_ok-number.ensures)
