use Rattle.containment.proofs.Exactly.{within-reading}
use Rattle.containment.proofs.laws.within_is_reading.Goals as goal

pub returns : goal.returns
returns c = within-reading
