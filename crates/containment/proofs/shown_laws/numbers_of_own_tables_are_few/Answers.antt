use Rattle.containment.proofs.OwnNumbers.{numbers-few}
use Rattle.containment.proofs.shown_laws.numbers_of_own_tables_are_few.Goals as goal

pub returns : goal.returns
returns c = numbers-few
