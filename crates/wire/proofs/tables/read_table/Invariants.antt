use Rattle.std.proofs.Common.{◌≡◌, ◌+◌, ◌≤◌, length}
use Rattle.std.specs.Slice.Iter.{split_inclusive_rest}
use Rattle.wire.specs.Tables.{lines, grid, rows_more, table_of}
use Rattle.wire.proofs.tables.read_table.Given as goal

abbrev pub invariant-loop-line : goal.invariant-loop-line
invariant-loop-line l =
    (l.table.rows + length (split_inclusive_rest l.line-iterator) ≤ length l.text)
    × (rows_more (grid l.table) (lines (split_inclusive_rest l.line-iterator)) ≡ table_of l.text)
