use Rattle.std.proofs.Common.{◌≡◌}
use Rattle.question.specs.Lent.{line_of, lines_of}
use Rattle.containment.specs.OwnNumbers.{one_table, has_same}
use Rattle.containment.proofs.shown.has_table.Given as goal

abbrev pub invariant-loop-other : goal.invariant-loop-other
invariant-loop-other l =
    (goal.iterator-loop-other).can_next l.other-iterator ×
    (goal.iterator-loop-other).is_finite l.other-iterator ×
    (has_same one_table (lines_of l.other-iterator) (line_of l.line) ≡ has_same one_table (lines_of l.initial.other-iterator) (line_of l.line))
