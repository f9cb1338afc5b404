use Rattle.std.proofs.Common.{Some, None, refl, ap, ◌∙◌}
use Rattle.std.specs.Option.{option_map}
use Rattle.question.specs.Lent.{line_of}
use Rattle.minimization.specs.Meant.{meant}
use Rattle.minimization.proofs.Taken.{none-taken, behind-taken, more-taken}
use Rattle.minimization.proofs.After.{begin, over, tried}
use Rattle.minimization.proofs.choose.LentCandidates.first_two.Goals as goal

pub found-init : goal.found-init
found-init g c = (refl, begin _ _ 2 _ c.nothing-none.ensures, c.requires.taken)

pub found-preserved : goal.found-preserved
found-preserved g c = (c.found.invariant.0, tried _ _ _ 1 _ (line_of c.in-Some.a) _ _ _ None c.in-Some.ensures.steps c.with-one.ensures.lines c.in_default-first_with.ensures c.found.invariant.1, behind-taken _ _ (line_of c.in-Some.a) _ c.in-Some.ensures.steps c.found.invariant.2)

pub returns-in-Some-first_with : goal.returns-in-Some-first_with
returns-in-Some-first_with g c = tried _ _ _ 1 _ (line_of c.in-Some.a) _ _ _ (Some (meant c.in-Some-first_with.two)) c.in-Some.ensures.steps c.with-one.ensures.lines c.in-Some-first_with.ensures c.found.invariant.1

pub returns-in_default : goal.returns-in_default
returns-in_default g c = ap (option_map meant) c.found.invariant.0 ∙ over _ _ 1 _ _ _ c.in_default.ensures.steps.0 c.found.invariant.1

pub first_with-requires-clause-taken : goal.first_with-requires-clause-taken
first_with-requires-clause-taken g c = more-taken _ _ _ _ (line_of c.in-Some.a) _ c.in-Some.ensures.steps c.with-one.ensures.lines c.found.invariant.2 (none-taken _ _ c.nothing-none.ensures)

pub first_with-requires-clause-behind : goal.first_with-requires-clause-behind
first_with-requires-clause-behind g c = behind-taken _ _ (line_of c.in-Some.a) _ c.in-Some.ensures.steps c.found.invariant.2
