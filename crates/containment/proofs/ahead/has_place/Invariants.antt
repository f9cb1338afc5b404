use Rattle.std.proofs.Common.{◌≡◌, Some}
use Rattle.question.specs.Lent.{line_of, lines_of}
use Rattle.containment.specs.Search.{try_lines}
use Rattle.containment.specs.Coding.{part_of}
use Rattle.containment.proofs.ahead.has_place.Given as goal

abbrev pub invariant-loop-other : goal.invariant-loop-other
invariant-loop-other g l =
    (goal.iterator-loop-other g).can_next l.other-iterator ×
    (goal.iterator-loop-other g).is_finite l.other-iterator ×
    (try_lines Some (lines_of l.other-iterator) (line_of l.line) (part_of l.reading.codes) ≡ try_lines Some (lines_of l.to) (line_of l.line) (part_of l.reading.codes))
