use Rattle.wire.proofs.Fronts.{own_request, own-question}
use Rattle.wire.proofs.laws.only_whole_requests_are_read.Goals as goal

pub returns : goal.returns
returns c = (own_request, own-question)
