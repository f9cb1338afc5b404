use Rattle.minimization.proofs.Fewest.{least_made}
use Rattle.minimization.proofs.laws.least_is_least.Goals as goal

pub returns : goal.returns
returns c = least_made
