use Rattle.containment.proofs.OwnNumbers.{numbers_answer}
use Rattle.containment.proofs.shown_laws.numbers_answer_as_own_tables.Goals as goal

pub returns : goal.returns
returns c = numbers_answer
