use Rattle.reports.proofs.Sorting.{widest_made}
use Rattle.reports.proofs.laws.widest_is_made.Goals as goal

pub returns : goal.returns
returns c = widest_made
