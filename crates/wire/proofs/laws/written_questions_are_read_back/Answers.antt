use Rattle.wire.proofs.Back.{question-back}
use Rattle.wire.proofs.laws.written_questions_are_read_back.Goals as goal

pub returns : goal.returns
returns c = question-back
