use Rattle.std.proofs.Common.{sym, ◌∙◌, arith}
use Rattle.answer.proofs.TableTurns.{there-next, there_stop, there_end}
use Rattle.answer.proofs.tables.all_there.Goals as goal

pub returns-in_default : goal.returns-in_default
returns-in_default c = sym (there_stop c.args.count c.loop.counter c.loop.rest.now (omega arith) (omega (arith, c.in_default.ensures))) ∙ c.loop.invariant

pub loop-preserved : goal.loop-preserved
loop-preserved c =
    let e = c.in-Some.ensures in
    let there = c.in-Some.table.there in
    rw (c.behind-rest.ensures, e) (sym (there-next c.args.count c.loop.counter c.loop.rest.now (omega arith) (rw e at there)) ∙ c.loop.invariant)

pub returns : goal.returns
returns c = sym (there_end c.args.count c.loop.counter c.loop.rest.now (omega arith)) ∙ c.loop.invariant
