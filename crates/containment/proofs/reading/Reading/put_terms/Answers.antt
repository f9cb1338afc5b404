use Rattle.std.proofs.Common.{length, sym, ◌∙◌, refl, ap, arith}
use Rattle.question.specs.Lent.{terms_of}
use Rattle.question.proofs.Within.{next_within}
use Rattle.containment.specs.Coding.{part_of}
use Rattle.containment.specs.Told.{told}
use Rattle.containment.proofs.Steps.{terms_next, terms_stop, terms_end, no-terms}
use Rattle.containment.proofs.reading.Reading.put_terms.Goals as goal

pub loop-term-init : goal.loop-term-init
loop-term-init g c =
    let e = c.into_iter-term-iterator.ensures.into_iter_gives in
    (tt, tt, rw e c.requires, rw e refl)

pub returns-in_err-other : goal.returns-in_err-other
returns-in_err-other g c =
    let a = ap length c.in-Some.ensures.steps in
    let b = ap length c.in_err-other.ensures.steps.0 in
    absurd (omega (arith, a, b, c.loop-term.invariant.2))

pub put_term-requires : goal.put_term-requires
put_term-requires g c = next_within c.loop-term.term-iterator c.in-Some.term _ (omega arith) c.in-Some.ensures.steps

pub returns-in_err-reading : goal.returns-in_err-reading
returns-in_err-reading g c =
    ap told c.from_residual-in_err-reading.ensures
    ∙ sym (terms_stop (part_of c.loop-term.reading.codes) (terms_of c.loop-term.term-iterator) (terms_of c.loop-term.others) _ _ _ _ c.in-Some.ensures.steps c.in_ok-other.ensures.steps (sym c.in_err-reading.ensures))
    ∙ c.loop-term.invariant.3

pub loop-term-preserved : goal.loop-term-preserved
loop-term-preserved g c =
    let a = ap length c.in-Some.ensures.steps in
    let b = ap length c.in_ok-other.ensures.steps in
    let next = terms_next (part_of c.loop-term.reading.codes) (part_of c.in_ok-reading.reading.codes) (terms_of c.loop-term.term-iterator) (terms_of c.loop-term.others) _ _ _ _ c.in-Some.ensures.steps c.in_ok-other.ensures.steps (sym c.in_ok-reading.ensures) in
    (tt, tt, omega (arith, a, b, c.loop-term.invariant.2), sym next ∙ c.loop-term.invariant.3)

pub returns : goal.returns
returns g c =
    let none = c.in-None.ensures.steps.0 in
    let a = ap length none in
    let others = no-terms (terms_of c.loop-term.others) (sym c.loop-term.invariant.2 ∙ a) in
    sym (terms_end (part_of c.loop-term.reading.codes) (terms_of c.loop-term.term-iterator) (terms_of c.loop-term.others) none others) ∙ c.loop-term.invariant.3
