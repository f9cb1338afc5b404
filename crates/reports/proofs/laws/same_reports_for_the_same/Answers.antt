use Rattle.reports.proofs.Reporting.{same_reports}
use Rattle.reports.proofs.laws.same_reports_for_the_same.Goals as goal

pub returns : goal.returns
returns c = same_reports
