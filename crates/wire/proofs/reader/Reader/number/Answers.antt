use Rattle.std.proofs.Common.{arith}
use Rattle.wire.specs.Reading.{left}
use Rattle.wire.proofs.Steps.{number_short, number_whole}
use Rattle.wire.proofs.reader.Reader.number.Goals as goal

pub returns-in_err-bytes : goal.returns-in_err-bytes
returns-in_err-bytes c = rw c.from_residual.ensures (number_short (left c.args.self.now) c.in_err-bytes.ensures.cases)

pub returns : goal.returns
returns c =
    let s = c.in_ok-bytes.ensures.cases in
    rw (c.from_le_bytes.ensures, s.0, s.1) (number_whole (left c.args.self.now) (omega (arith, s.2)))
