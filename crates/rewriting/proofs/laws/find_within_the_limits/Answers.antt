use Rattle.rewriting.proofs.Finding.{find-allowed}
use Rattle.rewriting.proofs.laws.find_within_the_limits.Goals as goal

pub returns : goal.returns
returns c = find-allowed
