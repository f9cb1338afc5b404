use Rattle.std.proofs.Common.{◌∙◌}
use Rattle.std.proofs.lemmas.List.{append-nil}
use Rattle.wire.specs.Bytes.{read_number, read_row, read_line}
use Rattle.wire.proofs.Steps.{then_read, then_short}
use Rattle.wire.proofs.reader.Reader.line.Goals as goal

pub returns-in_err-table-clause-read : goal.returns-in_err-table-clause-read
unfolding read_line
returns-in_err-table-clause-read c = rw c.from_residual.ensures (then_short read_number _ _ c.in_err-table.ensures)

pub returns-in_err-cells-clause-read : goal.returns-in_err-cells-clause-read
unfolding read_line
returns-in_err-cells-clause-read c =
    rw c.from_residual-in_err-cells.ensures
    (then_read read_number _ _ _ _ c.in_ok-table.ensures ∙ then_short read_row _ _ c.in_err-cells.ensures)

pub returns-clause-read : goal.returns-clause-read
unfolding read_line
returns-clause-read c =
    rw (c.from.ensures, c.copy_from_slice.ensures.after, append-nil c.in_ok-cells.cells)
    (then_read read_number _ _ _ _ c.in_ok-table.ensures ∙ then_read read_row _ _ _ _ c.in_ok-cells.ensures)
