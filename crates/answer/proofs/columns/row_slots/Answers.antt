use Rattle.std.proofs.Common.{rules, arith, ◌∙◌, length, ap, sym, append_assoc, append-nil}
use Rattle.answer.specs.Terms.{place_in}
use Rattle.answer.specs.Plan.{places}
use Rattle.answer.proofs.columns.row_slots.Goals as goal

pub loop-term-preserved : goal.loop-term-preserved
unfolding places
loop-term-preserved c =
    let next = c.in-Some.ensures.steps in
    let place = place_in c.args.codes.now.list.items in
    let l = ap length next in
    (tt, tt, omega (arith, c.push.ensures.len, l, c.loop-term.invariant.2), rw (c.push.ensures.items, append_assoc, c.slot.ensures) (rw next at c.loop-term.invariant.3))

pub returns : goal.returns
unfolding places
returns c = sym (append-nil _) ∙ rw c.in-None.ensures.steps.0 at c.loop-term.invariant.3 ∙ search rules
