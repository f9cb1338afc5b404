use Rattle.std.proofs.Common.{rules, ◌∙◌, ap, sym, refl, append_assoc, append-nil}
use Rattle.answer.specs.Columns.{order_of}
use Rattle.answer.specs.Lent.{tables_of}
use Rattle.answer.proofs.Copying.{copies-append, named_rows, rows-listed, table-named, table_other, no-copies}
use Rattle.answer.proofs.copies.Copier.copy_line.Goals as goal

pub loop-table-preserved-in-Continue-1 : goal.loop-table-preserved-in-Continue-1
loop-table-preserved-in-Continue-1 c =
    let named = table-named c.args.self.now.table _ _ _ c.in-Some.ensures.steps (sym c.number.ensures ∙ c.if-number-self.true) in
    (search rules, search rules, rw (c.in_ok-copy_rows.ensures, append_assoc) (rw (named, copies-append) at c.loop-table.invariant.2))

pub loop-table-preserved : goal.loop-table-preserved
loop-table-preserved c =
    let other = table_other c.args.self.now.table _ _ _ c.in-Some.ensures.steps (λ e. c.if-number-self.false (c.number.ensures ∙ e)) in
    (search rules, search rules, rw other at c.loop-table.invariant.2)

pub returns : goal.returns
returns c =
    let t = c.args.self.now.table in
    let none = no-copies c.args.self.now.id (order_of c.args.self.now.columns.now) c.args.self.now.terms.now (named_rows t (tables_of c.loop-table.table-iterator)) (ap (named_rows t) c.in-None.ensures.steps.0) in
    let e = c.into_iter-table-iterator.ensures.into_iter_gives in
    sym (append-nil _) ∙ rw none at c.loop-table.invariant.2 ∙ rw (e, ← rows-listed c.args.tables.count t c.args.tables.left.now) refl
