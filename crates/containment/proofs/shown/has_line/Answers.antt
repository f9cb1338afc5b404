use Rattle.std.proofs.Common.{rules, ◌∙◌, sym}
use Rattle.question.specs.Lent.{line_of}
use Rattle.containment.specs.OwnNumbers.{line_eqb}
use Rattle.containment.proofs.Turns.{has_first, has_rest, has_none}
use Rattle.containment.proofs.shown.has_line.Goals as goal

pub returns-then-same_line : goal.returns-then-same_line
returns-then-same_line c = sym (has_first line_eqb _ (line_of c.in-Some.other) _ (line_of c.args.line.now) c.in-Some.ensures.steps (sym c.same_line.ensures ∙ c.if-same_line.true)) ∙ c.loop-other.invariant.2 ∙ search rules

pub loop-other-preserved : goal.loop-other-preserved
loop-other-preserved c = (tt, tt, sym (has_rest line_eqb _ (line_of c.in-Some.other) _ (line_of c.args.line.now) c.in-Some.ensures.steps (sym c.same_line.ensures ∙ c.if-same_line.false)) ∙ c.loop-other.invariant.2)

pub returns : goal.returns
returns c = sym (has_none line_eqb _ (line_of c.args.line.now) c.in-None.ensures.steps.0) ∙ c.loop-other.invariant.2 ∙ search rules
