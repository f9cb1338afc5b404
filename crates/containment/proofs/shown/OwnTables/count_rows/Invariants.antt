use Rattle.std.proofs.Common.{◌≡◌, ◌+◌, ◌≤◌, length, drop}
use Rattle.question.specs.Question.{Value}
use Rattle.question.specs.Lent.{lines_of}
use Rattle.containment.specs.OwnTables.{rows_of}
use Rattle.containment.specs.OwnNumbers.{lines_once}
use Rattle.containment.proofs.Turns.{rows_left}
use Rattle.containment.proofs.shown.OwnTables.count_rows.Given as goal

abbrev pub invariant-loop-i : goal.invariant-loop-i
invariant-loop-i l =
    (goal.iterator-loop-i).can_next l.i-iterator ×
    (goal.iterator-loop-i).is_finite l.i-iterator ×
    (l.count ≤ l.i-iterator.count) ×
    (lines_of l.i-iterator.iter ≡ drop l.i-iterator.count (lines_of l.self.lines)) ×
    ((v : Value) → l.count + length (rows_left v l.of (lines_of l.self.lines) l.i-iterator.count) ≡ length (rows_of v l.of (lines_once (lines_of l.self.lines))))
