use Rattle.std.proofs.Common.{◌≡◌}
use Rattle.question.specs.Sound.{has, line_vars}
use Rattle.question.specs.Lent.{lines_of}
use Rattle.question.proofs.lines.Lines.have.Given as goal

abbrev pub invariant-loop-line : goal.invariant-loop-line
invariant-loop-line g l =
    (goal.iterator-loop-line g).can_next l.line-iterator ×
    (goal.iterator-loop-line g).is_finite l.line-iterator ×
    (has (line_vars (lines_of l.line-iterator)) l.x ≡ has (line_vars (lines_of l.initial.line-iterator)) l.x)
