use Rattle.rewriting.proofs.Finding.{find_first}
use Rattle.rewriting.proofs.laws.find_is_first.Goals as goal

pub returns : goal.returns
returns c = find_first
