use Rattle.std.proofs.Common.{◌≡◌, ◌+◌, ◌*◌, ◌≤◌, ◌++◌, length}
use Rattle.question.specs.Lent.{lines_of}
use Rattle.reports.specs.Expand.{expand_lines}
use Rattle.reports.specs.Lent.{reports_of, expanded_lines}
use Rattle.reports.proofs.expand.expand_uses.Given as goal

abbrev pub invariant-loop-k : goal.invariant-loop-k
invariant-loop-k l =
    goal.iterator-loop-k.can_next l.k-iterator ×
    goal.iterator-loop-k.is_finite l.k-iterator ×
    (l.k-iterator.count + length (lines_of l.k-iterator.iter) ≤ 4) ×
    (length (expanded_lines l.expanded) ≤ 4 * l.k-iterator.count) ×
    (expanded_lines l.expanded ++ expand_lines (reports_of l.reports) 16 (16 + 16 * l.k-iterator.count) (lines_of l.k-iterator.iter) ≡ expand_lines (reports_of l.reports) 16 16 (lines_of l.fn.uses))
