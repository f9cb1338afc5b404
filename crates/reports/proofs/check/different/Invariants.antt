use Rattle.std.proofs.Common.{◌≡◌}
use Rattle.question.specs.Lent.{terms_of}
use Rattle.reports.specs.Check.{different}
use Rattle.reports.proofs.check.different.Given as goal

abbrev pub invariant-loop-term : goal.invariant-loop-term
invariant-loop-term l =
    goal.iterator-loop-term.can_next l.left ×
    goal.iterator-loop-term.is_finite l.left ×
    (different (terms_of l.left) ≡ different (terms_of l.initial.left))
