use Rattle.containment.proofs.Exactly.{within_decided}
use Rattle.containment.proofs.laws.within_is_decided.Goals as goal

pub returns : goal.returns
returns c = within_decided
