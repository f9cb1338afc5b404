use Rattle.containment.proofs.Searching.{search_exact}
use Rattle.containment.proofs.laws.search_is_exact.Goals as goal

pub returns : goal.returns
returns c = search_exact
