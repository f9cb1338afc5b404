use Rattle.std.proofs.Common.{◌≡◌}
use Rattle.question.specs.Lent.{line_of, lines_of}
use Rattle.reports.specs.Check.{same_width}
use Rattle.reports.proofs.check.same_width.Given as goal

abbrev pub invariant-loop-other : goal.invariant-loop-other
invariant-loop-other l =
    goal.iterator-loop-other.can_next l.other-iterator ×
    goal.iterator-loop-other.is_finite l.other-iterator ×
    (same_width (lines_of l.other-iterator) (line_of l.line) ≡ same_width (lines_of l.initial.other-iterator) (line_of l.line))
