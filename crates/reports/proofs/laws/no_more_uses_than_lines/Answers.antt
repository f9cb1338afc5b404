use Rattle.reports.proofs.Fewer.{few-uses}
use Rattle.reports.proofs.laws.no_more_uses_than_lines.Goals as goal

pub returns : goal.returns
returns c = few-uses
