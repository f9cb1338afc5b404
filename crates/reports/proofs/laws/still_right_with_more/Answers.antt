use Rattle.reports.proofs.Reporting.{still_right}
use Rattle.reports.proofs.laws.still_right_with_more.Goals as goal

pub returns : goal.returns
returns c = still_right
