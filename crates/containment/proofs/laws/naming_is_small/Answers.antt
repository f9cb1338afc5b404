use Rattle.containment.proofs.Small.{naming_small}
use Rattle.containment.proofs.laws.naming_is_small.Goals as goal

pub returns : goal.returns
returns c = naming_small
