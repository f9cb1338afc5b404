use Rattle.std.proofs.Common.{string_bytes, arith}
use Rattle.wire.proofs.RowTexts.{rows_more, rows_end}
use Rattle.wire.proofs.printing.write_rows.Goals as goal

pub loop-preserved : goal.loop-preserved
loop-preserved c =
    rows_more c.args.rows c.loop.counter c.args.columns c.min.result c.loop.rest.now _ _ (string_bytes c.loop.text) (string_bytes c.write_row.new.text)
    (string_bytes c.writeln.new.self) _ (omega arith) c.min.ensures c.split_at.ensures.front c.split_at.ensures.back c.in_ok-write_row.ensures
    c.in_ok-writeln.ensures.bytes c.loop.invariant

pub returns : goal.returns
returns c = rows_end c.args.rows c.loop.counter c.args.columns c.loop.rest.now (string_bytes c.loop.text) _ (omega arith) c.loop.invariant
