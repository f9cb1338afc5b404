use Rattle.std.proofs.Common.{◌≡◌}
use Rattle.question.specs.Sound.{has}
use Rattle.question.specs.Lent.{lines_of}
use Rattle.containment.specs.OwnTables.{line_numbers}
use Rattle.containment.proofs.fresh.lines_name.Given as goal

abbrev pub invariant-loop-line : goal.invariant-loop-line
invariant-loop-line l =
    (goal.iterator-loop-line).can_next l.line-iterator ×
    (goal.iterator-loop-line).is_finite l.line-iterator ×
    (has (line_numbers (lines_of l.line-iterator)) l.n ≡ has (line_numbers (lines_of l.initial.line-iterator)) l.n)
