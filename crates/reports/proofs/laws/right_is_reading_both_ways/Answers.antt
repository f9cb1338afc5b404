use Rattle.reports.proofs.Righting.{right_exact}
use Rattle.reports.proofs.laws.right_is_reading_both_ways.Goals as goal

pub returns : goal.returns
returns c = right_exact
