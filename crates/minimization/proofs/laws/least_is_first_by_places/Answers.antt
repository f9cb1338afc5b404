use Rattle.minimization.proofs.ByPlaces.{least_first}
use Rattle.minimization.proofs.laws.least_is_first_by_places.Goals as goal

pub returns : goal.returns
returns c = least_first
