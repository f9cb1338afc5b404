use Rattle.std.proofs.Common.{true, false, ap, ◌∙◌}
use Rattle.question.specs.Lent.{line_of}
use Rattle.minimization.proofs.Taken.{behind-taken, more-taken}
use Rattle.minimization.proofs.After.{or-none, tested, over}
use Rattle.minimization.proofs.choose.LentCandidates.first_with.Goals as goal

pub loop-line-init : goal.loop-line-init
loop-line-init g c = (tt, tt, rw c.into_iter-line-iterator.ensures.into_iter_gives (or-none _), rw c.into_iter-line-iterator.ensures.into_iter_gives c.requires.behind)

pub returns-then-passes : goal.returns-then-passes
returns-then-passes g c = tested _ _ _ _ (line_of c.in-Some.line) _ _ _ true c.in-Some.ensures.steps c.with-more.ensures.lines (c.if-passes.ensures ∙ ap (g.T.PartialTest.decides c.args.self.now.test.now) c.lines.ensures.lines) c.loop-line.invariant.2

pub loop-line-preserved : goal.loop-line-preserved
loop-line-preserved g c = (tt, tt, tested _ _ _ _ (line_of c.in-Some.line) _ _ _ false c.in-Some.ensures.steps c.with-more.ensures.lines (c.if-passes.ensures ∙ ap (g.T.PartialTest.decides c.args.self.now.test.now) c.lines.ensures.lines) c.loop-line.invariant.2, behind-taken _ _ (line_of c.in-Some.line) _ c.in-Some.ensures.steps c.loop-line.invariant.3)

pub returns : goal.returns
returns g c = over _ _ 0 _ _ _ c.in-None.ensures.steps.0 c.loop-line.invariant.2

pub passes-requires-clause-taken : goal.passes-requires-clause-taken
passes-requires-clause-taken g c = more-taken _ _ _ _ (line_of c.in-Some.line) _ c.in-Some.ensures.steps (c.lines.ensures.lines ∙ c.with-more.ensures.lines) c.loop-line.invariant.3 c.requires.taken
