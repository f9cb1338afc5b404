use Rattle.std.proofs.Common.{cond, Some, None, sym, ap, arith}
use Rattle.std.specs.Option.{option_or}
use Rattle.std.proofs.lemmas.Bool.Decides.{nat_tests}
use Rattle.question.specs.Check.{row_good, fault}
use Rattle.question.proofs.Chunks.{fault-lent}
use Rattle.question.proofs.Faults.{no_fault-fits}
use Rattle.question.proofs.check.question_fault.Goals as goal

pub returns-in-Some : goal.returns-in-Some
unfolding fault
returns-in-Some c =
    let found = fault-lent c.min-count.result _ c.args.question.now _ _ c.requires c.min-count.ensures (omega arith) c.as_chunks.ensures.front c.in-Some.ensures in
    ap (λ o. option_or o (cond (row_good c.args.question.now) None (Some 4))) found

pub row_good-requires : goal.row_good-requires
row_good-requires c =
    let none = fault-lent c.min-count.result _ c.args.question.now _ _ c.requires c.min-count.ensures (omega arith) c.as_chunks.ensures.front c.in_default.ensures in
    (c.requires, no_fault-fits _ _ (sym none))

pub returns-then-row_good : goal.returns-then-row_good
unfolding fault
returns-then-row_good c =
    let none = fault-lent c.min-count.result _ c.args.question.now _ _ c.requires c.min-count.ensures (omega arith) c.as_chunks.ensures.front c.in_default.ensures in
    grind (arith, nat_tests)

pub returns-else-row_good : goal.returns-else-row_good
unfolding fault
returns-else-row_good c =
    let none = fault-lent c.min-count.result _ c.args.question.now _ _ c.requires c.min-count.ensures (omega arith) c.as_chunks.ensures.front c.in_default.ensures in
    grind (arith, nat_tests)
