use Rattle.std.proofs.Common.{◌≡◌, length, Ok, sym, ap, ◌∙◌, arith, rules}
use borrow.Author.Tests.{tests}
use Rattle.std.proofs.lemmas.List.{length-append}
use Rattle.std.proofs.lemmas.Result.{err_from_is_err_and}
use Rattle.std.specs.Slice.Iter.{split_inclusive_rest}
use Rattle.wire.specs.Tables.{grid, table_of}
use Rattle.wire.proofs.Sizes.{table_full}
use Rattle.wire.proofs.Splits.{cut_next}
use Rattle.wire.proofs.Rows.{rows_end, lines_step, told_fault, grown_rows}
use Rattle.wire.proofs.tables.read_table.Goals as goal

pub loop-line-preserved : goal.loop-line-preserved
loop-line-preserved c =
    let s = c.in-Some.ensures.steps in
    let others = split_inclusive_rest c.next.new.self in
    let line = cut_next _ 10 _ _ others _ _ s (λ a r q k. search (rules, tests)) in
    let g = grid c.loop-line.table in
    let after = grid c.push_line.new.self in (
      omega (arith, s.2, s.1.1, ap length s.0 ∙ length-append c.in-Some.line.now others, grown_rows g after _ c.in_ok-push_line.ensures, c.loop-line.invariant.0),
      lines_step g after _ _ others (table_of c.args.text.now) s.2 line.0 line.1 c.in_ok-push_line.ensures c.loop-line.invariant.1,
    )

pub returns-in_err-push_line-clause-told : goal.returns-in_err-push_line-clause-told
returns-in_err-push_line-clause-told c =
    let s = c.in-Some.ensures.steps in
    let line = cut_next _ 10 _ _ _ _ _ s (λ a r q k. search (rules, tests)) in
    let e = err_from_is_err_and c.from_residual.result c.from_residual.ensures.1 in
    rw (e.1, e.2)
    (told_fault (grid c.loop-line.table) (grid c.push_line.new.self) (split_inclusive_rest c.loop-line.line-iterator) _ (table_of c.args.text.now) _
    s.2 line.0 c.in_err-push_line.ensures c.loop-line.invariant.1)

pub returns-clause-told : goal.returns-clause-told
returns-clause-told c = sym c.loop-line.invariant.1 ∙ rows_end (grid c.loop-line.table) (split_inclusive_rest c.loop-line.line-iterator) c.in-None.ensures.steps.0

pub returns-clause-size : goal.returns-clause-size
returns-clause-size c =
    let g = grid c.loop-line.table in
    let told : table_of c.args.text.now ≡ Ok g = sym c.loop-line.invariant.1 ∙ rows_end g (split_inclusive_rest c.loop-line.line-iterator) c.in-None.ensures.steps.0 in
    c.loop-line.table.cells.ok.0 ∙ table_full c.args.text.now g told
