use Rattle.std.proofs.Common.{◌++◌, string_bytes, decimal, ap, ◌∙◌, arith}
use Rattle.wire.specs.Texts.{cells_text}
use Rattle.wire.proofs.RowTexts.{cells-more, cells_end, row-none, row_from}
use Rattle.question.proofs.Adding.{joined}
use Rattle.wire.proofs.printing.write_row.Goals as goal

pub returns-in_default : goal.returns-in_default
returns-in_default c = row-none c.args.row.now (string_bytes c.args.text.now) c.in_default.ensures.cases

pub loop-cell-preserved : goal.loop-cell-preserved
loop-cell-preserved c =
    cells-more c.in-Some.others.now c.loop-cell.cell-index (string_bytes c.loop-cell.text) (string_bytes c.write-in-loop-cell.new.self) _ (omega arith)
    c.in_ok-write-2.ensures.bytes c.loop-cell.invariant

pub returns : goal.returns
returns c =
    let row = c.args.row.now in
    let first = c.in-Some.first.now in
    let others = c.in-Some.others.now in
    let all = cells_end others c.loop-cell.cell-index (string_bytes c.loop-cell.text) _ (omega arith) c.loop-cell.invariant in
    joined (string_bytes c.args.text.now) (string_bytes c.write.new.self) (string_bytes c.loop-cell.text) (decimal first) (cells_text others) c.in_ok-write.ensures.bytes all
    ∙ ap (λ bs. string_bytes c.args.text.now ++ bs) (row_from row first others c.in-Some.ensures.cases)
