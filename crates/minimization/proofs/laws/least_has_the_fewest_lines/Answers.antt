use Rattle.minimization.proofs.Fewest.{fewest-lines}
use Rattle.minimization.proofs.laws.least_has_the_fewest_lines.Goals as goal

pub returns : goal.returns
returns c = fewest-lines
