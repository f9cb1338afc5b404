use Rattle.std.proofs.Common.{vec_items, ◌∷◌, [], eqb, sym, refl, ap, ◌∙◌, arith, rules}
use borrow.Author.Tests.{tests}
use Rattle.std.proofs.lemmas.Bool.Decides.{nat_tests}
use Rattle.std.proofs.lemmas.Slice.{pushed}
use Rattle.std.proofs.lemmas.Iterator.Splits.{YieldsList-from_slice_split}
use Rattle.std.proofs.lemmas.Result.{err_from_is_err_and}
use Rattle.std.specs.Slice.Iter.{split_rest, split_done, split_callee}
use Rattle.wire.specs.Tables.{line_row}
use Rattle.wire.proofs.Rows.{row_empty, cells_left, cells_more, cells_fault, cells_done, pushed_fault}
use Rattle.wire.proofs.Steps.{none_from, some_from}
use Rattle.wire.proofs.tables.push_row.Goals as goal

pub returns-then-is_empty : goal.returns-then-is_empty
returns-then-is_empty c = row_empty c.args.line.now (vec_items c.args.cells.now) (grind (arith, nat_tests))

pub loop-cell-init : goal.loop-cell-init
loop-cell-init c =
    let same = c.into_iter-cell-iterator.ensures.into_iter_gives in
    let cut = c.split-cell-items.ensures in
    cells_left c.args.line.now (vec_items c.args.cells.now) (grind (arith, nat_tests))
    (YieldsList-from_slice_split _ (λ b. eqb b 44) c.args.line.now (ap split_rest same ∙ cut.rest) (ap split_done same ∙ cut.done) (ap split_callee same ∙ cut.closure)
    (λ x b q k. search (rules, tests)))

pub returns-in_err-ok_or : goal.returns-in_err-ok_or
returns-in_err-ok_or c =
    let e = err_from_is_err_and c.from_residual.result c.from_residual.ensures.1 in
    let f = none_from c.read_number.result _ _ c.in_err-ok_or.ensures.value in
    pushed_fault c.args.at (vec_items c.args.cells.now) (line_row c.args.line.now) _ c.from_residual.result e.0 e.1 (e.2 ∙ f.1)
    (cells_fault c.next.new.self c.in-Some.cell (vec_items c.loop-cell.cells) _ _ c.loop-cell.invariant c.in-Some.ensures.steps (sym c.read_number.ensures ∙ f.0))

pub loop-cell-preserved : goal.loop-cell-preserved
loop-cell-preserved c =
    let n = c.in_ok-ok_or.field-0 in
    cells_more c.next.new.self c.in-Some.cell (vec_items c.loop-cell.cells) (vec_items c.push.new.self) _ n c.loop-cell.invariant c.in-Some.ensures.steps
    (sym c.read_number.ensures ∙ some_from c.read_number.result _ n c.in_ok-ok_or.ensures.value) (pushed (n ∷ []) refl c.in_ok-push.was c.push.ensures.items)

pub returns : goal.returns
returns c = cells_done c.next.new.self (vec_items c.loop-cell.cells) _ c.loop-cell.invariant c.in-None.ensures.steps
