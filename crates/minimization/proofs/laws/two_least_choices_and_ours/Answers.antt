use Rattle.minimization.proofs.TwoWays.{two_ways}
use Rattle.minimization.proofs.laws.two_least_choices_and_ours.Goals as goal

pub returns : goal.returns
returns c = two_ways
