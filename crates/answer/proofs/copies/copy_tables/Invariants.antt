use Rattle.std.proofs.Common.{◌≡◌, ◌≤◌, ◌++◌, length, drop, vec_items}
use Rattle.question.specs.Lent.{lines_of, question_of}
use Rattle.answer.specs.Columns.{orders_of}
use Rattle.answer.specs.Lent.{base_of}
use Rattle.answer.specs.Taking.{all_copies}
use Rattle.answer.proofs.copies.copy_tables.Given as goal

abbrev pub invariant-loop-i : goal.invariant-loop-i
invariant-loop-i l =
    (goal.iterator-loop-i).can_next l.i-iterator × (goal.iterator-loop-i).is_finite l.i-iterator
    × (l.i-iterator.count ≤ length (question_of l.question).lines)
    × (lines_of l.i-iterator.iter ≡ drop l.i-iterator.count (question_of l.question).lines)
    × (vec_items l.rows ++ all_copies (base_of l.tables) l.i-iterator.count (lines_of l.i-iterator.iter) (drop l.i-iterator.count (orders_of l.lines))
    ≡ all_copies (base_of l.tables) 0 (question_of l.question).lines (orders_of l.lines))
