use Rattle.std.proofs.Common.{rules, arith, ◌∙◌, sym}
use Rattle.question.specs.Layout.{code}
use Rattle.answer.specs.Terms.{all_put_in}
use Rattle.answer.proofs.Listing.{one-length}
use Rattle.answer.proofs.Gathering.{term-put, term-left, term-room, no-codes}
use Rattle.answer.proofs.codes.Codes.put_terms.Goals as goal

pub put-requires : goal.put-requires
put-requires c =
    let room = term-room _ _ _ _ c.in-Some.ensures.steps (c.has.ensures.yes c.if-has.true) in
    omega (arith, c.loop-term.invariant.2, room)

pub loop-term-preserved-then-has : goal.loop-term-preserved-then-has
loop-term-preserved-then-has c =
    let one = c.has.ensures.yes c.if-has.true in
    let room = term-room _ _ _ _ c.in-Some.ensures.steps one in
    let more = one-length c.loop-term.self.list.items (code c.in-Some.term) in
    (tt, tt, rw c.put.ensures (omega (arith, c.loop-term.invariant.2, room, more)), rw c.put.ensures (sym (term-put _ _ _ _ _ c.in-Some.ensures.steps one) ∙ c.loop-term.invariant.3))

pub loop-term-preserved : goal.loop-term-preserved
loop-term-preserved c =
    let same = term-left _ _ _ _ c.in-Some.ensures.steps (c.has.ensures.no c.if-has.false) in
    (tt, tt, rw same at c.loop-term.invariant.2, rw same at c.loop-term.invariant.3)

pub returns : goal.returns
unfolding all_put_in
returns c = rw (c.in-None.ensures.steps.0, no-codes c.args.kind) at c.loop-term.invariant.3 ∙ search rules
