use Rattle.std.proofs.Common.{◌≡◌, ◌+◌, ◌≤◌, length}
use Rattle.question.specs.Lent.{question_of}
use Rattle.reports.specs.Widest.{all_uses, widest}
use Rattle.reports.specs.Uses.{lines_kept, insert_all}
use Rattle.reports.specs.Lent.{reports_of}
use Rattle.reports.proofs.wide.widest.Given as goal

abbrev pub invariant-loop-t : goal.invariant-loop-t
invariant-loop-t l =
    goal.iterator-loop-t.can_next l.t-iterator ×
    goal.iterator-loop-t.is_finite l.t-iterator ×
    (l.t-iterator.count + length (reports_of l.t-iterator.iter) ≤ 8) ×
    (insert_all (all_uses (question_of l.question) l.t-iterator.count (reports_of l.t-iterator.iter)) (lines_kept l.uses) ≡ (widest (reports_of l.fn.reports) (question_of l.question)).lines)
