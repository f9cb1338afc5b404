use Rattle.std.proofs.Common.{◌≡◌, ◌++◌, drop, string_bytes}
use Rattle.wire.specs.Texts.{cells_text}
use Rattle.wire.proofs.printing.write_row.Given as goal

abbrev pub invariant-loop-cell : goal.invariant-loop-cell
invariant-loop-cell l = string_bytes l.text ++ cells_text (drop l.cell-index l.others) ≡ string_bytes l.initial.text ++ cells_text l.others
