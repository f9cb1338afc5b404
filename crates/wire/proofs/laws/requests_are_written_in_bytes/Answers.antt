use Rattle.wire.proofs.Below.{request_below}
use Rattle.wire.proofs.laws.requests_are_written_in_bytes.Goals as goal

pub returns : goal.returns
returns c = request_below
