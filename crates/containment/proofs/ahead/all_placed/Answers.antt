use Rattle.std.proofs.Common.{sym, ◌∙◌, refl}
use Rattle.question.specs.Lent.{line_of, lines_of}
use Rattle.containment.specs.Coding.{part_of}
use Rattle.containment.proofs.Placed.{placed_next, placed_stop, placed_end}
use Rattle.containment.proofs.ahead.all_placed.Goals as goal

pub loop-line-init : goal.loop-line-init
loop-line-init g c = (tt, tt, rw c.into_iter-line-iterator.ensures.into_iter_gives refl)

pub returns-then-not-has_place : goal.returns-then-not-has_place
returns-then-not-has_place g c =
    sym (placed_stop (lines_of c.loop-line.line-iterator) (lines_of c.args.to.now) (part_of c.args.reading.codes) (line_of c.in-Some.line) _ c.in-Some.ensures.steps (sym c.has_place.ensures ∙ c.if-not-has_place.true)) ∙ c.loop-line.invariant.2

pub loop-line-preserved : goal.loop-line-preserved
loop-line-preserved g c =
    (tt, tt, sym (placed_next (lines_of c.loop-line.line-iterator) (lines_of c.args.to.now) (part_of c.args.reading.codes) (line_of c.in-Some.line) _ c.in-Some.ensures.steps (sym c.has_place.ensures ∙ c.if-not-has_place.false)) ∙ c.loop-line.invariant.2)

pub returns : goal.returns
returns g c = sym (placed_end (lines_of c.loop-line.line-iterator) (lines_of c.args.to.now) (part_of c.args.reading.codes) c.in-None.ensures.steps.0) ∙ c.loop-line.invariant.2
