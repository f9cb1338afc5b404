use Rattle.std.proofs.Common.{arith}
use Rattle.std.proofs.lemmas.Bool.Decides.{nat_tests}
use Rattle.question.specs.Lent.{question_of}
use Rattle.containment.proofs.Numbering.{names_question}
use Rattle.containment.proofs.fresh.names_number.Goals as goal

pub returns-then-terms_name : goal.returns-then-terms_name
returns-then-terms_name c = let e = names_question (question_of c.args.question.now) c.args.n in grind (arith, nat_tests)

pub returns-else-terms_name : goal.returns-else-terms_name
returns-else-terms_name c = let e = names_question (question_of c.args.question.now) c.args.n in grind (arith, nat_tests)
