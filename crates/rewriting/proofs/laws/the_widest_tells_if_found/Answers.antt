use Rattle.rewriting.proofs.Finding.{found-by-widest}
use Rattle.rewriting.proofs.laws.the_widest_tells_if_found.Goals as goal

pub returns : goal.returns
returns c = found-by-widest
