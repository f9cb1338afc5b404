use Rattle.wire.proofs.Same.{request_same}
use Rattle.wire.proofs.laws.numbers_are_the_same_request.Goals as goal

pub returns : goal.returns
returns c = request_same
