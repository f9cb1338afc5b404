use Rattle.containment.proofs.Naming.{naming-only}
use Rattle.containment.proofs.laws.naming_is_the_only_one.Goals as goal

pub returns : goal.returns
returns c = naming-only
