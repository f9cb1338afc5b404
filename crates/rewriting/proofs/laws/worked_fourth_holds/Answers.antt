use Rattle.rewriting.proofs.Working.{the_fourth}
use Rattle.rewriting.proofs.laws.worked_fourth_holds.Goals as goal

pub returns : goal.returns
returns c = the_fourth
