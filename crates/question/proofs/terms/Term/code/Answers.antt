use Rattle.std.proofs.Common.{arith}
use Rattle.question.specs.Layout.{code}
use Rattle.question.proofs.terms.Term.code.Goals as goal

pub returns-in-Number-clause-code : goal.returns-in-Number-clause-code
unfolding code
returns-in-Number-clause-code c = grind arith

pub returns-in-Variable-clause-code : goal.returns-in-Variable-clause-code
unfolding code
returns-in-Variable-clause-code c = grind arith
