use Rattle.rewriting.proofs.Finding.{find-right}
use Rattle.rewriting.proofs.laws.find_is_right.Goals as goal

pub returns : goal.returns
returns c = find-right
