use Rattle.std.proofs.Common.{rules, ◌≡◌, ◌+◌, ◌++◌, ◌∷◌, [], length, sym, ◌∙◌, refl, ap, arith}
use Rattle.std.proofs.lemmas.List.{length-append}
use Rattle.question.specs.Lent.{terms_of}
use Rattle.question.proofs.Within.{next_within}
use Rattle.question.proofs.Coming.{next-dropped}
use Rattle.containment.specs.Coding.{part_of}
use Rattle.containment.proofs.Stuck.{stuck}
use Rattle.containment.proofs.reading.Reading.may_put_all.Goals as goal

pub loop-term-init : goal.loop-term-init
loop-term-init g c =
    let e = c.into_iter-term-iterator.ensures.into_iter_gives in
    (search rules, search rules, rw (e, c.zip-term-items.ensures.first) refl, rw e (ap terms_of c.zip-term-items.ensures.second))

pub may_put-requires : goal.may_put-requires
may_put-requires g c = next_within c.loop-term.term-iterator.a c.in-Some.term _ (omega arith) c.in-Some.ensures.steps.0

pub loop-term-preserved : goal.loop-term-preserved
loop-term-preserved g c =
    let s = c.in-Some.ensures.steps in
    let n = length c.loop-term.yielded in
    let more : length (c.loop-term.yielded ++ (c.in-Some.term, c.in-Some.other) ∷ []) ≡ n + 1 = length-append c.loop-term.yielded _ in
    (search rules, search rules, rw more (next-dropped n (terms_of c.args.from.now) c.in-Some.term _ (sym c.loop-term.invariant.2 ∙ s.0)), rw more (next-dropped n (terms_of c.args.to.now) c.in-Some.other _ (sym c.loop-term.invariant.3 ∙ s.1)))

pub returns-then-not-may_put : goal.returns-then-not-may_put
returns-then-not-may_put g c = λ _.
    let s = c.in-Some.ensures.steps in
    stuck (part_of c.args.self.now.codes) (length c.loop-term.yielded) (terms_of c.args.from.now) (terms_of c.args.to.now) c.in-Some.term c.in-Some.other _ _
    (sym c.loop-term.invariant.2 ∙ s.0) (sym c.loop-term.invariant.3 ∙ s.1) (c.may_put.ensures c.if-not-may_put.true)
