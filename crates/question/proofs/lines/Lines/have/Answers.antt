use Rattle.std.proofs.Common.{rules, ◌∙◌, sym}
use Rattle.question.specs.Lent.{line_of}
use Rattle.question.proofs.Standing.{has-line-first, has-line-rest, has-none}
use Rattle.question.proofs.lines.Lines.have.Goals as goal

pub returns-then-has : goal.returns-then-has
returns-then-has g c = sym (has-line-first c.args.x _ (line_of c.in-Some.line) _ c.in-Some.ensures.steps (sym c.has.ensures ∙ c.if-has.true)) ∙ c.loop-line.invariant.2 ∙ search rules

pub loop-line-preserved : goal.loop-line-preserved
loop-line-preserved g c = (tt, tt, sym (has-line-rest c.args.x _ (line_of c.in-Some.line) _ c.in-Some.ensures.steps (sym c.has.ensures ∙ c.if-has.false)) ∙ c.loop-line.invariant.2)

pub returns : goal.returns
returns g c = sym (has-none c.args.x _ c.in-None.ensures.steps.0) ∙ c.loop-line.invariant.2 ∙ search rules
