use Rattle.std.proofs.Common.{◌≡◌}
use Rattle.question.specs.Lent.{lines_of}
use Rattle.reports.specs.Check.{same_widths}
use Rattle.reports.proofs.check.same_widths.Given as goal

abbrev pub invariant-loop-other : goal.invariant-loop-other
invariant-loop-other l =
    goal.iterator-loop-other.can_next l.other-iterator ×
    goal.iterator-loop-other.is_finite l.other-iterator ×
    (same_widths (lines_of l.lines) (lines_of l.other-iterator) ≡ same_widths (lines_of l.lines) (lines_of l.initial.other-iterator))
