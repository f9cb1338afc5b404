use Rattle.std.proofs.Common.{◌≡◌}
use Rattle.std.specs.List.{list_all}
use Rattle.question.specs.Lent.{lines_of}
use Rattle.reports.specs.Check.{same_widths}
use Rattle.reports.specs.Lent.{reports_of}
use Rattle.reports.proofs.check.all_agree.Given as goal

abbrev pub invariant-loop-report : goal.invariant-loop-report
invariant-loop-report l =
    goal.iterator-loop-report.can_next l.report-iterator ×
    goal.iterator-loop-report.is_finite l.report-iterator ×
    (list_all (λ r. same_widths r.lines (lines_of l.lines)) (reports_of l.report-iterator) ≡ list_all (λ r. same_widths r.lines (lines_of l.lines)) (reports_of l.initial.report-iterator))
