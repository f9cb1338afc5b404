use Rattle.std.proofs.Common.{arith}
use Rattle.std.proofs.lemmas.Bool.Decides.{nat_tests}
use Rattle.answer.specs.TableCheck.{tables_whole}
use Rattle.answer.proofs.tables.Tables.whole.Goals as goal

pub returns-in_default : goal.returns-in_default
unfolding tables_whole
returns-in_default c = grind (arith, nat_tests)

pub returns-then-count-gt16 : goal.returns-then-count-gt16
unfolding tables_whole
returns-then-count-gt16 c = grind (arith, nat_tests)

pub returns : goal.returns
unfolding tables_whole
returns c = grind (arith, nat_tests)
