use Rattle.wire.proofs.Cut.{request_cut}
use Rattle.wire.proofs.laws.requests_cut_short_are_refused.Goals as goal

pub returns : goal.returns
returns c = request_cut
