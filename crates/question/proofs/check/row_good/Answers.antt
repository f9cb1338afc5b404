use Rattle.std.proofs.Common.{arith}
use Rattle.std.proofs.lemmas.Bool.Decides.{nat_tests}
use Rattle.std.proofs.lemmas.List.{take_rest}
use Rattle.question.proofs.Faults.{sound_lent}
use Rattle.question.proofs.check.row_good.Goals as goal

pub returns-then-not-contains : goal.returns-then-not-contains
returns-then-not-contains c = let e = sound_lent c.args.question.now in grind (arith, nat_tests)

pub returns : goal.returns
returns c =
    let e = sound_lent c.args.question.now in
    let row = take_rest c.args.question.now 1 in
    let lines = take_rest c.args.question.now 10 in
    grind (arith, nat_tests)
