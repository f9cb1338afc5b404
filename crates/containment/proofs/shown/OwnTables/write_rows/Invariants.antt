use Rattle.std.proofs.Common.{◌≡◌, drop}
use Rattle.question.specs.Layout.{value_in}
use Rattle.question.specs.Lent.{lines_of}
use Rattle.containment.specs.OwnTables.{rows_of}
use Rattle.containment.specs.OwnNumbers.{lines_once, cells_out}
use Rattle.containment.proofs.Turns.{rows_left, Written}
use Rattle.containment.proofs.shown.OwnTables.write_rows.Given as goal

abbrev pub invariant-loop-i : goal.invariant-loop-i
invariant-loop-i l =
    (goal.iterator-loop-i).can_next l.i-iterator ×
    (goal.iterator-loop-i).is_finite l.i-iterator ×
    (lines_of l.i-iterator.iter ≡ drop l.i-iterator.count (lines_of l.self.lines)) ×
    Written (cells_out (rows_of (value_in l.self.values.now) l.of (lines_once (lines_of l.self.lines)))) (cells_out (rows_left (value_in l.self.values.now) l.of (lines_of l.self.lines) l.i-iterator.count)) l.initial.room l.room l.at
