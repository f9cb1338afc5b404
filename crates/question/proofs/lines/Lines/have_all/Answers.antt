use Rattle.std.proofs.Common.{rules, ◌∙◌, sym}
use Rattle.question.proofs.Standing.{all_in-number, all_in-rest, all_in-stop, all_in-none}
use Rattle.question.proofs.lines.Lines.have_all.Goals as goal

pub loop-term-preserved-in_default : goal.loop-term-preserved-in_default
loop-term-preserved-in_default g c = (tt, tt, sym (all_in-number _ _ c.in_default.field-0 _ (rw c.in_default.is at c.in-Some.ensures.steps)) ∙ c.loop-term.invariant.2)

pub returns-then-not-have : goal.returns-then-not-have
returns-then-not-have g c = sym (all_in-stop _ _ c.in-Variable.x _ (rw c.in-Variable.is at c.in-Some.ensures.steps) (sym c.have.ensures ∙ c.if-not-have.true)) ∙ c.loop-term.invariant.2 ∙ search rules

pub loop-term-preserved : goal.loop-term-preserved
loop-term-preserved g c = (tt, tt, sym (all_in-rest _ _ c.in-Variable.x _ (rw c.in-Variable.is at c.in-Some.ensures.steps) (sym c.have.ensures ∙ c.if-not-have.false)) ∙ c.loop-term.invariant.2)

pub returns : goal.returns
returns g c = sym (all_in-none _ _ c.in-None.ensures.steps.0) ∙ c.loop-term.invariant.2 ∙ search rules
