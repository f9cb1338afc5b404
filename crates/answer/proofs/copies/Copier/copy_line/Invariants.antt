use Rattle.std.proofs.Common.{◌≡◌, ◌++◌, vec_items}
use Rattle.answer.specs.Columns.{order_of}
use Rattle.answer.specs.Lent.{tables_of}
use Rattle.answer.specs.Taking.{copies_of}
use Rattle.answer.proofs.Copying.{named_rows}
use Rattle.answer.proofs.copies.Copier.copy_line.Given as goal

abbrev pub invariant-loop-table : goal.invariant-loop-table
invariant-loop-table l =
    (goal.iterator-loop-table).can_next l.table-iterator × (goal.iterator-loop-table).is_finite l.table-iterator
    × (vec_items l.rows ++ copies_of l.self.id (order_of l.self.columns.now) l.self.terms.now (named_rows l.self.table (tables_of l.table-iterator))
    ≡ vec_items l.initial.rows ++ copies_of l.self.id (order_of l.self.columns.now) l.self.terms.now (named_rows l.self.table (tables_of l.initial.table-iterator)))
