use Rattle.rewriting.proofs.Working.{all_hold}
use Rattle.rewriting.proofs.laws.worked_table_holds.Goals as goal

pub returns : goal.returns
returns c = all_hold
