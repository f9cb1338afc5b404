use Rattle.std.proofs.Common.{◌≡◌, ◌++◌, vec_items}
use Rattle.answer.specs.Columns.{order_of}
use Rattle.answer.specs.Lent.{rows_of}
use Rattle.answer.specs.Taking.{copies_of}
use Rattle.answer.proofs.copies.Copier.copy_rows.Given as goal

abbrev pub invariant-loop-row : goal.invariant-loop-row
invariant-loop-row l =
    (goal.iterator-loop-row).can_next l.row-iterator × (goal.iterator-loop-row).is_finite l.row-iterator
    × (vec_items l.rows ++ copies_of l.self.id (order_of l.self.columns.now) l.self.terms.now (rows_of l.row-iterator)
    ≡ vec_items l.initial.rows ++ copies_of l.self.id (order_of l.self.columns.now) l.self.terms.now (rows_of l.initial.row-iterator))
