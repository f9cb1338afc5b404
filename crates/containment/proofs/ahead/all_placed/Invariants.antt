use Rattle.std.proofs.Common.{◌≡◌}
use Rattle.question.specs.Lent.{lines_of}
use Rattle.containment.specs.Search.{all_placed}
use Rattle.containment.specs.Coding.{part_of}
use Rattle.containment.proofs.ahead.all_placed.Given as goal

abbrev pub invariant-loop-line : goal.invariant-loop-line
invariant-loop-line g l =
    (goal.iterator-loop-line g).can_next l.line-iterator ×
    (goal.iterator-loop-line g).is_finite l.line-iterator ×
    (all_placed (lines_of l.line-iterator) (lines_of l.to) (part_of l.reading.codes) ≡ all_placed (lines_of l.from) (lines_of l.to) (part_of l.reading.codes))
