use Rattle.containment.proofs.Exactly.{any_naming}
use Rattle.containment.proofs.laws.any_naming_shows.Goals as goal

pub returns : goal.returns
returns c = any_naming
