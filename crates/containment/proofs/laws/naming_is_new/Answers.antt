use Rattle.containment.proofs.Naming.{naming-new}
use Rattle.containment.proofs.laws.naming_is_new.Goals as goal

pub returns : goal.returns
returns c = naming-new
