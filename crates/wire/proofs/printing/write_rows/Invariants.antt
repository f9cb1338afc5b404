use Rattle.std.proofs.Common.{◌≡◌, ◌-◌, ◌++◌, string_bytes}
use Rattle.question.specs.Tables.{rows_in}
use Rattle.wire.specs.Tables.{table_text}
use Rattle.wire.proofs.printing.write_rows.Given as goal

abbrev pub invariant-loop : goal.invariant-loop
invariant-loop l = string_bytes l.text ++ table_text (rows_in (l.rows - l.counter) l.columns l.rest) ≡ string_bytes l.initial.text ++ table_text (rows_in l.rows l.columns l.numbers)
