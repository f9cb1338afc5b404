use Rattle.std.proofs.Common.{◌≡◌, drop}
use Rattle.question.specs.Layout.{value_in}
use Rattle.question.specs.Lent.{lines_of}
use Rattle.containment.specs.OwnNumbers.{lines_once, table_heads, each_out}
use Rattle.containment.proofs.Turns.{heads_left, Written}
use Rattle.containment.proofs.shown.OwnTables.write_each.Given as goal

abbrev pub invariant-loop-i : goal.invariant-loop-i
invariant-loop-i l =
    (goal.iterator-loop-i).can_next l.i-iterator ×
    (goal.iterator-loop-i).is_finite l.i-iterator ×
    (lines_of l.i-iterator.iter ≡ drop l.i-iterator.count (lines_of l.self.lines)) ×
    Written (each_out (value_in l.self.values.now) (lines_once (lines_of l.self.lines)) (table_heads (lines_of l.self.lines))) (each_out (value_in l.self.values.now) (lines_once (lines_of l.self.lines)) (heads_left (lines_of l.self.lines) l.i-iterator.count)) l.initial.room l.room l.at
