use Rattle.containment.proofs.Naming.{naming-least}
use Rattle.containment.proofs.laws.naming_is_least.Goals as goal

pub returns : goal.returns
returns c = naming-least
