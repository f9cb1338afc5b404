use Rattle.containment.proofs.Coding.{part_none}
use Rattle.containment.proofs.reading.Reading.nothing.Goals as goal

pub returns : goal.returns
returns c = part_none 16
