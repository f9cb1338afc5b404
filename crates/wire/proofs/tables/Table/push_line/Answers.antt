use Rattle.std.proofs.Common.{◌≡◌, ◌-◌, ◌<◌, Err, sym, refl, ap, ◌∙◌, arith}
use Rattle.std.proofs.lemmas.Result.{err_from_is_err_and}
use Rattle.wire.specs.Tables.{line_row, grid}
use Rattle.wire.specs.Texts.{before_end, cells_behind}
use Rattle.wire.proofs.Splits.{trimmed_line}
use Rattle.wire.proofs.Rows.{grown_row, grown_other, grown_fault}
use Rattle.wire.proofs.tables.Table.push_line.Goals as goal
use Rattle.wire.proofs.tables.Table.push_line.Goals.{else-self-gt0-via-then-self-gt0+else-width-self, else-self-gt0-via-else-self-gt0}

pub returns-in_err-push_row : goal.returns-in_err-push_row
returns-in_err-push_row c =
    let line = before_end 10 c.args.line.now in
    let row = trimmed_line c.without-row.result.now c.without.result.now c.args.line.now c.without-row.ensures c.without.ensures in
    let e = err_from_is_err_and c.from_residual.result c.from_residual.ensures.1 in
    grown_fault (grid c.args.self.now) _ line c.without-row.result.now c.push_row.new.cells.items c.from_residual.result _ row (e.1 ∙ ap Err e.2) c.in_err-push_row.ensures

pub returns-then-width-self : goal.returns-then-width-self
returns-then-width-self c =
    let line = before_end 10 c.args.line.now in
    let row = trimmed_line c.without-row.result.now c.without.result.now c.args.line.now c.without-row.ensures c.without.ensures in (
      grown_other (grid c.args.self.now) line c.push_row.new.cells.items (c.len.result - c.len-before.result) (ap (λ l. cells_behind c.args.self.now.cells.items (line_row l)) (sym row) ∙ c.in_ok-push_row.ensures)
          (omega (arith, c.len.ensures, c.len-before.ensures, c.args.self.now.cells.ok.0, c.push_row.new.cells.ok.0)) c.if-self-gt0.true c.if-width-self.true,
      refl,
    )

pub returns : goal.returns
returns c =
    let line = before_end 10 c.args.line.now in
    let row = trimmed_line c.without-row.result.now c.without.result.now c.args.line.now c.without-row.ensures c.without.ensures in
    let alike : 0 < c.args.self.now.rows → c.len.result - c.len-before.result ≡ c.args.self.now.columns =
    λ z. elim c.else-self-gt0.branch [ else-self-gt0-via-then-self-gt0+else-width-self w ↦ omega arith | else-self-gt0-via-else-self-gt0 w ↦ omega arith ] in
    grown_row (grid c.args.self.now) _ line (ap (λ l. cells_behind c.args.self.now.cells.items (line_row l)) (sym row) ∙ c.in_ok-push_row.ensures)
    (omega (arith, c.len.ensures, c.len-before.ensures, c.args.self.now.cells.ok.0, c.push_row.new.cells.ok.0)) refl alike
