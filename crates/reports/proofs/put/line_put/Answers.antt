use Rattle.std.proofs.Common.{rules, ◌≡◌, ◌+◌, [], ◌∷◌, length, drop, replicate, refl, sym, ap, ◌∙◌, arith}
use Rattle.question.specs.declared.terms.Term.{Term}
use Rattle.question.specs.Layout.{terms_out}
use Rattle.question.specs.Lent.{terms_of}
use Rattle.question.proofs.Within.{next_within}
use Rattle.question.proofs.Coming.{next-dropped, next-below, none-left}
use Rattle.question.proofs.Writing.{length-line_out}
use Rattle.containment.specs.Reading.{put, all_put}
use Rattle.containment.proofs.Readings.{length-put}
use Rattle.reports.proofs.Filling.{use_more, use_whole}
use Rattle.reports.proofs.put.line_put.Goals as goal

pub loop-i-init : goal.loop-i-init
unfolding terms_out all_put
loop-i-init g c =
    let e = c.into_iter-i-iterator.ensures.into_iter_gives in
    (search rules, search rules, rw (e, c.enumerate-i-items.ensures.count) (omega arith), rw (e, c.enumerate-i-items.ensures.count, c.enumerate-i-items.ensures.source) refl, rw (e, c.enumerate-i-items.ensures.count, c.count_left.ensures) refl)

pub term-requires : goal.term-requires
term-requires g c = next_within c.loop-i.i-iterator.iter c.in-Some.term _ (omega arith) c.in-Some.ensures.steps.0

pub loop-i-preserved : goal.loop-i-preserved
loop-i-preserved g c =
    let ts = terms_of c.args.terms in
    let h = g.P.Put.how c.args.by.now in
    let n = c.loop-i.i-iterator.count in
    let s = c.in-Some.ensures.steps in
    let next = sym c.loop-i.invariant.3 ∙ s.0 in
    let rest = next-dropped n ts c.in-Some.term _ next in
    let below = next-below n ts c.in-Some.term _ next in
    let whole : drop n ts ≡ c.in-Some.term ∷ drop (n + 1) ts = rw (← rest) next in
    let o : terms_out (put h c.in-Some.term ∷ []) ≡ c.numbers-kind.result.0 ∷ c.numbers-kind.result.1 ∷ [] = ap (λ (t : Term). terms_out (t ∷ [])) (sym c.term.ensures) ∙ c.numbers-kind.ensures in
    let more = use_more c.args.table (length ts) n h ts c.in-Some.term _ _ (replicate 10 0) c.loop-i.line refl below c.requires whole o c.loop-i.invariant.4 in
    (search rules, search rules, rw s.2 (omega (arith, below)), rw s.2 rest, rw (s.2, s.1) more)

pub returns : goal.returns
returns g c =
    let ts = terms_of c.args.terms in
    let h = g.P.Put.how c.args.by.now in
    let n = c.loop-i.i-iterator.count in
    let end : n ≡ length ts = omega (arith, none-left n ts (sym c.loop-i.invariant.3 ∙ c.in-None.ensures.steps.0.0), c.loop-i.invariant.2) in
    let made = c.loop-i.invariant.4 ∙ use_whole c.args.table (length ts) n h ts refl c.requires end in
    record { put = made; ten = ap length made ∙ length-line_out _ (rw (length-put h ts) c.requires) }
