use Rattle.std.proofs.Common.{rules, ◌≡◌, ◌∙◌, ◌+◌, ◌∷◌, drop, refl, sym, arith}
use Rattle.question.specs.Question.{all_at}
use Rattle.question.specs.Layout.{value_in}
use Rattle.question.specs.Lent.{terms_of}
use Rattle.question.proofs.Front.{row_more}
use Rattle.question.proofs.Within.{next_within}
use Rattle.question.proofs.Coming.{next-dropped, next-below}
use Rattle.question.proofs.terms.Terms.row_under.Goals as goal

pub loop-i-init : goal.loop-i-init
unfolding all_at
loop-i-init g c =
    let e = c.into_iter-i-iterator.ensures.into_iter_gives in
    (search rules, search rules, rw (e, c.enumerate-i-items.ensures.count) (omega arith), rw (e, c.enumerate-i-items.ensures.count, c.enumerate-i-items.ensures.source) refl, rw (e, c.enumerate-i-items.ensures.count) refl)

pub under-requires : goal.under-requires
under-requires g c = next_within c.loop-i.i-iterator.iter c.in-Some.term _ c.requires.few c.in-Some.ensures.steps.0

pub loop-i-preserved : goal.loop-i-preserved
loop-i-preserved g c =
    let ts = terms_of c.args.self.now in
    let n = c.loop-i.i-iterator.count in
    let s = c.in-Some.ensures.steps in
    let next = sym c.loop-i.invariant.3 ∙ s.0 in
    let rest = next-dropped n ts c.in-Some.term _ next in
    let below = next-below n ts c.in-Some.term _ next in
    let whole : drop n ts ≡ c.in-Some.term ∷ drop (n + 1) ts = rw (← rest) next in
    (search rules, search rules, rw s.2 (omega (arith, below)), rw s.2 rest, rw (s.2, s.1, c.loop-i.invariant.4, c.under.ensures) (row_more (value_in c.args.values.now) n ts c.in-Some.term c.args.out.now whole below (omega (arith, below, c.requires.room))))
