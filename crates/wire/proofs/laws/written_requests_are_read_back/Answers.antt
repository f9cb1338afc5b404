use Rattle.wire.proofs.Back.{request_back}
use Rattle.wire.proofs.laws.written_requests_are_read_back.Goals as goal

pub returns : goal.returns
returns c = request_back
