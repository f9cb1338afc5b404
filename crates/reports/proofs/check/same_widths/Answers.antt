use Rattle.std.proofs.Common.{rules, sym, ◌∙◌}
use Rattle.question.specs.Lent.{line_of, lines_of}
use Rattle.reports.proofs.Widths.{widths_next, widths_stop, widths_end}
use Rattle.reports.proofs.check.same_widths.Goals as goal

pub returns-then-not-same_width : goal.returns-then-not-same_width
returns-then-not-same_width c = sym (widths_stop (lines_of c.args.lines) _ _ (line_of c.in-Some.other) c.in-Some.ensures.steps (sym c.same_width.ensures ∙ c.if-not-same_width.true)) ∙ c.loop-other.invariant.2 ∙ search rules

pub loop-other-preserved : goal.loop-other-preserved
loop-other-preserved c =
    (tt, tt, sym (widths_next (lines_of c.args.lines) _ _ (line_of c.in-Some.other) c.in-Some.ensures.steps (sym c.same_width.ensures ∙ c.if-not-same_width.false)) ∙ c.loop-other.invariant.2)

pub returns : goal.returns
returns c = sym (widths_end (lines_of c.args.lines) _ c.in-None.ensures.steps.0) ∙ c.loop-other.invariant.2 ∙ search rules
