use Rattle.std.proofs.Common.{is_some, Some, sym, ap, ◌∙◌, refl}
use Rattle.question.specs.Lent.{line_of, lines_of}
use Rattle.containment.specs.Coding.{part_of}
use Rattle.containment.proofs.Found.{told-or-not}
use Rattle.containment.proofs.Steps.{put_some, put_none, try_end}
use Rattle.containment.proofs.ahead.has_place.Goals as goal

pub loop-other-init : goal.loop-other-init
loop-other-init g c = (tt, tt, rw c.into_iter-other-iterator.ensures.into_iter_gives refl)

pub returns-then-is_some : goal.returns-then-is_some
returns-then-is_some g c =
    let e = sym (ap is_some c.put_line.ensures) ∙ sym (told-or-not c.put_line.result) ∙ sym c.is_some.ensures ∙ c.if-is_some.true in
    sym (ap is_some (sym c.loop-other.invariant.2) ∙ put_some (lines_of c.loop-other.other-iterator) (line_of c.args.line.now) _ _ (part_of c.args.reading.codes) c.in-Some.ensures.steps e)

pub loop-other-preserved : goal.loop-other-preserved
loop-other-preserved g c =
    let e = sym (ap is_some c.put_line.ensures) ∙ sym (told-or-not c.put_line.result) ∙ sym c.is_some.ensures ∙ c.if-is_some.false in
    (tt, tt, sym (put_none (lines_of c.loop-other.other-iterator) (line_of c.args.line.now) _ _ (part_of c.args.reading.codes) c.in-Some.ensures.steps e) ∙ c.loop-other.invariant.2)

pub returns : goal.returns
returns g c = sym (ap is_some (sym c.loop-other.invariant.2 ∙ try_end Some (lines_of c.loop-other.other-iterator) (line_of c.args.line.now) (part_of c.args.reading.codes) c.in-None.ensures.steps.0))
