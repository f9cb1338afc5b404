use Rattle.reports.proofs.Righting.{expansion_correct}
use Rattle.reports.proofs.laws.expansion_is_correct.Goals as goal

pub returns : goal.returns
returns c = expansion_correct
