use Rattle.std.proofs.Common.{sym, ap, ◌∙◌, ◌∷◌}
use Rattle.question.specs.Lent.{terms_of}
use Rattle.reports.proofs.Widths.{different-number, different_twice, different-next, different_end}
use Rattle.reports.proofs.check.different.Goals as goal

pub returns-in_default-term : goal.returns-in_default-term
returns-in_default-term c =
    let left = terms_of c.next.new.self in
    sym (different-number _ left c.in_default-term.field-0 (c.in-Some.ensures.steps ∙ ap (λ t. t ∷ left) c.in_default-term.is)) ∙ c.loop-term.invariant.2

pub returns-then-have : goal.returns-then-have
returns-then-have c =
    let left = terms_of c.next.new.self in
    sym (different_twice _ left c.in-Variable.x (c.in-Some.ensures.steps ∙ ap (λ t. t ∷ left) c.in-Variable.is) (sym c.have.ensures ∙ c.if-have.true)) ∙ c.loop-term.invariant.2

pub loop-term-preserved : goal.loop-term-preserved
loop-term-preserved c =
    let left = terms_of c.next.new.self in
    (tt, tt, sym (different-next _ left c.in-Variable.x (c.in-Some.ensures.steps ∙ ap (λ t. t ∷ left) c.in-Variable.is) (sym c.have.ensures ∙ c.if-have.false)) ∙ c.loop-term.invariant.2)

pub returns : goal.returns
returns c = sym (different_end _ c.in_default.ensures.steps.0) ∙ c.loop-term.invariant.2
