use Rattle.rewriting.proofs.Finding.{always_found}
use Rattle.rewriting.proofs.laws.always_found.Goals as goal

pub returns : goal.returns
returns c = always_found
