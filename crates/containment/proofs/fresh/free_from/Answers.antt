use Rattle.std.proofs.Common.{◌<◌, ◌++◌, sym, ◌∙◌, add-one, arith}
use Rattle.question.specs.Lent.{question_of}
use Rattle.containment.specs.OwnTables.{question_numbers, free_from}
use Rattle.containment.proofs.Naming.{free_next, free_here, free_above}
use Rattle.containment.proofs.fresh.free_from.Goals as goal

pub overflow_add-n : goal.overflow_add-n
overflow_add-n c =
    let ns = question_numbers (question_of c.args.first.now) ++ question_numbers (question_of c.args.second.now) in
    let h : c.loop-n.n < free_from ns c.loop-n.n = free_above ns c.loop-n.n (sym c.named.ensures ∙ c.loop-n-test.true) in
    omega (arith, h, c.loop-n.invariant, c.requires)

pub loop-n-smaller : goal.loop-n-smaller
loop-n-smaller c =
    let ns = question_numbers (question_of c.args.first.now) ++ question_numbers (question_of c.args.second.now) in
    let h : c.loop-n.n < free_from ns c.loop-n.n = free_above ns c.loop-n.n (sym c.named.ensures ∙ c.loop-n-test.true) in
    omega (arith, h, c.loop-n.invariant)

pub loop-n-preserved : goal.loop-n-preserved
loop-n-preserved c =
    let ns = question_numbers (question_of c.args.first.now) ++ question_numbers (question_of c.args.second.now) in
    rw add-one (sym (free_next ns c.loop-n.n (sym c.named.ensures ∙ c.loop-n-test.true)) ∙ c.loop-n.invariant)

pub returns : goal.returns
returns c =
    let ns = question_numbers (question_of c.args.first.now) ++ question_numbers (question_of c.args.second.now) in
    sym (free_here ns c.loop-n.n (sym c.named.ensures ∙ c.loop-n-test.false)) ∙ c.loop-n.invariant
