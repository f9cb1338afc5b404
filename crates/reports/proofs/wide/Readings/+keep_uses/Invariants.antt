use Rattle.std.proofs.Common.{◌≡◌, map, length}
use Rattle.question.specs.Lent.{line_of, lines_of, question_of}
use Rattle.reports.specs.Widest.{use_of, all_lines, all_readings}
use Rattle.reports.specs.Uses.{lines_kept, insert_all}
use Rattle.reports.specs.Made.{own_part}
use Rattle.reports.proofs.wide.Readings.+keep_uses.Given as goal

abbrev pub decreases-keep_uses : goal.decreases-keep_uses
decreases-keep_uses l = length (lines_of l.lines)

abbrev pub invariant-loop-to : goal.invariant-loop-to
invariant-loop-to l =
    goal.iterator-loop-to.can_next l.to-iterator ×
    goal.iterator-loop-to.is_finite l.to-iterator ×
    (insert_all (map (use_of l.self.number (question_of l.self.report)) (all_lines (all_readings (lines_of l.left) (question_of l.self.question).lines) (lines_of l.to-iterator) (line_of l.from) (own_part l.reading))) (lines_kept l.uses)
    ≡ insert_all (map (use_of l.self.number (question_of l.self.report)) (all_lines (all_readings (lines_of l.left) (question_of l.self.question).lines) (question_of l.self.question).lines (line_of l.from) (own_part l.reading))) (lines_kept l.initial.uses))
