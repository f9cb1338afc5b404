use Rattle.std.proofs.Common.{sym}
use Rattle.question.proofs.Decoding.{length-terms_in}
use Rattle.question.proofs.lines.Line.width.Goals as goal

pub returns : goal.returns
returns g c = sym (length-terms_in _ _)
