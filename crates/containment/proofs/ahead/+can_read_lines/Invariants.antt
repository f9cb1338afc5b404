use Rattle.std.proofs.Common.{◌≡◌, length}
use Rattle.question.specs.Lent.{line_of, lines_of}
use Rattle.containment.specs.Search.{read_lines, try_lines}
use Rattle.containment.specs.Coding.{part_of}
use Rattle.containment.proofs.ahead.+can_read_lines.Given as goal

abbrev pub decreases-can_read_lines : goal.decreases-can_read_lines
decreases-can_read_lines g l = length (lines_of l.from.now)

abbrev pub invariant-loop-other : goal.invariant-loop-other
invariant-loop-other g l =
    (goal.iterator-loop-other g).can_next l.other-iterator ×
    (goal.iterator-loop-other g).is_finite l.other-iterator ×
    (try_lines (read_lines (lines_of l.left) (lines_of l.to)) (lines_of l.other-iterator) (line_of l.line) (part_of l.reading.codes)
    ≡ read_lines (lines_of l.from) (lines_of l.to) (part_of l.reading.codes))
