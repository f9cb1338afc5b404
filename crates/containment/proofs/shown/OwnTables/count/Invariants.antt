use Rattle.std.proofs.Common.{◌≡◌, ◌+◌, ◌≤◌, length, drop}
use Rattle.question.specs.Lent.{lines_of}
use Rattle.containment.specs.OwnNumbers.{table_heads}
use Rattle.containment.proofs.Turns.{heads_left}
use Rattle.containment.proofs.shown.OwnTables.count.Given as goal

abbrev pub invariant-loop-i : goal.invariant-loop-i
invariant-loop-i l =
    (goal.iterator-loop-i).can_next l.i-iterator ×
    (goal.iterator-loop-i).is_finite l.i-iterator ×
    (l.count ≤ l.i-iterator.count) ×
    (lines_of l.i-iterator.iter ≡ drop l.i-iterator.count (lines_of l.self.lines)) ×
    (l.count + length (heads_left (lines_of l.self.lines) l.i-iterator.count) ≡ length (table_heads (lines_of l.self.lines)))
