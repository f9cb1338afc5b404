use Rattle.containment.proofs.Exactly.{within_exact}
use Rattle.containment.proofs.laws.within_is_exact.Goals as goal

pub returns : goal.returns
returns c = within_exact
