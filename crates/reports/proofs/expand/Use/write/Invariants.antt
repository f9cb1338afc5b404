use Rattle.std.proofs.Common.{◌≡◌, ◌+◌, ◌≤◌, ◌++◌, length}
use Rattle.question.specs.Lent.{line_of, lines_of, question_of}
use Rattle.containment.specs.Reading.{put_lines}
use Rattle.reports.specs.Expand.{row_put}
use Rattle.reports.specs.Lent.{expanded_lines}
use Rattle.reports.proofs.expand.Use.write.Given as goal

abbrev pub invariant-loop-line : goal.invariant-loop-line
invariant-loop-line l =
    goal.iterator-loop-line.can_next l.line-iterator ×
    goal.iterator-loop-line.is_finite l.line-iterator ×
    (length (expanded_lines l.to) + length (lines_of l.line-iterator) ≤ 16) ×
    (expanded_lines l.to ++ put_lines (row_put (question_of l.self.report).row (line_of l.self.used).cells l.self.base) (lines_of l.line-iterator)
    ≡ expanded_lines l.initial.to ++ put_lines (row_put (question_of l.self.report).row (line_of l.self.used).cells l.self.base) (lines_of l.initial.line-iterator))
