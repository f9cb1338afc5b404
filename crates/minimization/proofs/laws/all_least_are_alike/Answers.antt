use Rattle.minimization.proofs.Fewest.{one_least}
use Rattle.minimization.proofs.laws.all_least_are_alike.Goals as goal

pub returns : goal.returns
returns c = one_least
