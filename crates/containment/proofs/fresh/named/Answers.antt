use Rattle.std.proofs.Common.{arith}
use Rattle.std.proofs.lemmas.Bool.Decides.{nat_tests}
use Rattle.question.specs.Lent.{question_of}
use Rattle.containment.proofs.Numbering.{names_two}
use Rattle.containment.proofs.fresh.named.Goals as goal

pub returns-then-names_number : goal.returns-then-names_number
returns-then-names_number c = let e = names_two (question_of c.args.first.now) (question_of c.args.second.now) c.args.n in grind (arith, nat_tests)

pub returns-else-names_number : goal.returns-else-names_number
returns-else-names_number c = let e = names_two (question_of c.args.first.now) (question_of c.args.second.now) c.args.n in grind (arith, nat_tests)
