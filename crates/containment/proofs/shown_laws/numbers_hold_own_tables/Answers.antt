use Rattle.containment.proofs.OwnNumbers.{numbers_hold}
use Rattle.containment.proofs.shown_laws.numbers_hold_own_tables.Goals as goal

pub returns : goal.returns
returns c = numbers_hold
