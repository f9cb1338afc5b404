use Rattle.std.proofs.Common.{Some, None, refl, ap, ◌∙◌}
use Rattle.std.specs.Option.{option_map}
use Rattle.question.specs.Lent.{line_of}
use Rattle.minimization.specs.Meant.{meant}
use Rattle.minimization.proofs.Taken.{none-taken, behind-taken, more-taken}
use Rattle.minimization.proofs.After.{begin, enter, over, tried}
use Rattle.minimization.proofs.choose.LentCandidates.first_four.Goals as goal

pub found-init : goal.found-init
found-init g c = (refl, begin _ _ 4 _ c.nothing-none.ensures, c.requires.taken)

pub loop-b-init : goal.loop-b-init
loop-b-init g c = (c.found.invariant.0, enter _ _ _ 3 _ (line_of c.in-Some.a) _ _ _ c.in-Some.ensures.steps c.with-one.ensures.lines c.found.invariant.1, behind-taken _ _ (line_of c.in-Some.a) _ c.in-Some.ensures.steps c.found.invariant.2)

pub loop-c-init : goal.loop-c-init
loop-c-init g c = (c.loop-b.invariant.0, enter _ _ _ 2 _ (line_of c.in-Some-next.b) _ _ _ c.in-Some-next.ensures.steps c.with-two.ensures.lines c.loop-b.invariant.1, behind-taken _ _ (line_of c.in-Some-next.b) _ c.in-Some-next.ensures.steps c.loop-b.invariant.2)

pub loop-c-preserved : goal.loop-c-preserved
loop-c-preserved g c = (c.loop-c.invariant.0, tried _ _ _ 1 _ (line_of c.in-Some-next-2.c) _ _ _ None c.in-Some-next-2.ensures.steps c.with-three.ensures.lines c.in_default-first_with.ensures c.loop-c.invariant.1, behind-taken _ _ (line_of c.in-Some-next-2.c) _ c.in-Some-next-2.ensures.steps c.loop-c.invariant.2)

pub returns-in-Some-first_with : goal.returns-in-Some-first_with
returns-in-Some-first_with g c = tried _ _ _ 1 _ (line_of c.in-Some-next-2.c) _ _ _ (Some (meant c.in-Some-first_with.four)) c.in-Some-next-2.ensures.steps c.with-three.ensures.lines c.in-Some-first_with.ensures c.loop-c.invariant.1

pub loop-b-preserved : goal.loop-b-preserved
loop-b-preserved g c = (c.loop-c.invariant.0, over _ _ 1 _ _ _ c.in_default-next-2.ensures.steps.0 c.loop-c.invariant.1, behind-taken _ _ (line_of c.in-Some-next.b) _ c.in-Some-next.ensures.steps c.loop-b.invariant.2)

pub found-preserved : goal.found-preserved
found-preserved g c = (c.loop-b.invariant.0, over _ _ 2 _ _ _ c.in_default-next.ensures.steps.0 c.loop-b.invariant.1, behind-taken _ _ (line_of c.in-Some.a) _ c.in-Some.ensures.steps c.found.invariant.2)

pub returns-in_default : goal.returns-in_default
returns-in_default g c = ap (option_map meant) c.found.invariant.0 ∙ over _ _ 3 _ _ _ c.in_default.ensures.steps.0 c.found.invariant.1

pub first_with-requires-clause-taken : goal.first_with-requires-clause-taken
first_with-requires-clause-taken g c =
    let one = more-taken _ _ _ _ (line_of c.in-Some.a) _ c.in-Some.ensures.steps c.with-one.ensures.lines c.found.invariant.2 (none-taken _ _ c.nothing-none.ensures) in
    let two = more-taken _ _ _ _ (line_of c.in-Some-next.b) _ c.in-Some-next.ensures.steps c.with-two.ensures.lines c.loop-b.invariant.2 one in
    more-taken _ _ _ _ (line_of c.in-Some-next-2.c) _ c.in-Some-next-2.ensures.steps c.with-three.ensures.lines c.loop-c.invariant.2 two

pub first_with-requires-clause-behind : goal.first_with-requires-clause-behind
first_with-requires-clause-behind g c = behind-taken _ _ (line_of c.in-Some-next-2.c) _ c.in-Some-next-2.ensures.steps c.loop-c.invariant.2
