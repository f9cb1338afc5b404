use Rattle.wire.proofs.Cut.{question_cut}
use Rattle.wire.proofs.laws.questions_cut_short_are_refused.Goals as goal

pub returns : goal.returns
returns c = question_cut
