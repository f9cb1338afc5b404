use Rattle.std.proofs.Common.{vec_items}
use Rattle.wire.specs.Tables.{line_row}
use Rattle.wire.specs.Texts.{cells_behind}
use Rattle.wire.proofs.Rows.{CellsLeft}
use Rattle.wire.proofs.tables.push_row.Given as goal

abbrev pub invariant-loop-cell : goal.invariant-loop-cell
invariant-loop-cell l = CellsLeft goal.iterator-loop-cell.next_gives l.cell-iterator (vec_items l.cells) (cells_behind (vec_items l.initial.cells) (line_row l.line))
