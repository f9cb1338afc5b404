use Rattle.std.proofs.Common.{arith}
use Rattle.question.specs.Layout.{code}
use Rattle.question.proofs.terms.Term.of_code.Goals as goal

pub returns-in-Ok : goal.returns-in-Ok
unfolding code
returns-in-Ok c = (omega (arith, c.in-Ok.ensures), omega (arith, c.in-Ok.ensures))

pub returns : goal.returns
unfolding code
returns c = (omega (arith, c.in-Ok-try_from.ensures, c.in_default.ensures), omega (arith, c.in-Ok-try_from.ensures))
