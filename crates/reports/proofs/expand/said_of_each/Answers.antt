use Rattle.std.proofs.Common.{◌≡◌, ℕ, ◌<◌, length, get_or, None, inl, inr, sym, ap, ◌∙◌, subst, arith}
use Rattle.std.proofs.lemmas.List.{length-set}
use Rattle.std.specs.Option.{unwrap_or}
use Rattle.question.specs.declared.terms.Term.{Term}
use Rattle.question.specs.Sound.{TermWithin}
use Rattle.question.specs.Lent.{terms_of}
use Rattle.question.proofs.Within.{next_within}
use Rattle.reports.specs.Expand.{assign}
use Rattle.reports.proofs.Putting.{assign_other, assign_row, assign_cells, said-more}
use Rattle.reports.proofs.expand.said_of_each.Goals as goal

pub loop-term-preserved-in_default : goal.loop-term-preserved-in_default
loop-term-preserved-in_default c =
    let s = c.in-Some.ensures.steps in (
      (tt, tt),
      tt,
      c.loop-term.invariant.2,
      λ x d h.
          let e = assign_other x (terms_of c.loop-term.term-iterator.a) (terms_of c.next.new.self.a) (terms_of c.loop-term.term-iterator.b) (terms_of c.next.new.self.b) c.in-Some.term c.in-Some.cell d s.0 s.1
          (λ q. let z : ◌≡◌ {A = ℕ} 0 1 = cc (sym c.in_default.is ∙ q) in absurd (omega arith)) in
          ap (λ (t : Term). unwrap_or (get_or c.loop-term.said x None) t) (sym e) ∙ c.loop-term.invariant.3 x d h,
    )

pub bounds-said-x : goal.bounds-said-x
bounds-said-x c = subst (λ (t : Term). TermWithin t) c.in-Variable.is (next_within c.loop-term.term-iterator.a c.in-Some.term _ (omega arith) c.in-Some.ensures.steps.0)

pub bounds-said-x-in-loop-term : goal.bounds-said-x-in-loop-term
bounds-said-x-in-loop-term c = subst (λ (t : Term). TermWithin t) c.in-Variable.is (next_within c.loop-term.term-iterator.a c.in-Some.term _ (omega arith) c.in-Some.ensures.steps.0)

pub loop-term-preserved : goal.loop-term-preserved
loop-term-preserved c =
    let s = c.in-Some.ensures.steps in
    let within : c.in-Variable.x < 16 = subst (λ (t : Term). TermWithin t) c.in-Variable.is (next_within c.loop-term.term-iterator.a c.in-Some.term _ (omega arith) s.0) in
    let there : c.in-Variable.x < length c.loop-term.said = omega (arith, within, c.loop-term.invariant.2) in (
      (tt, tt),
      tt,
      length-set c.loop-term.said c.in-Variable.x c.or.result ∙ c.loop-term.invariant.2,
      λ x d h. said-more c.in-Variable.x c.loop-term.said c.or.result (terms_of c.loop-term.term-iterator.a) (terms_of c.next.new.self.a) (terms_of c.loop-term.term-iterator.b) (terms_of c.next.new.self.b) c.in-Some.term c.in-Some.cell _ s.0 s.1 c.in-Variable.is there c.or.ensures x d
          ∙ c.loop-term.invariant.3 x d h,
    )

pub returns-clause-said : goal.returns-clause-said
returns-clause-said c = λ x d h.
    let a = terms_of c.loop-term.term-iterator.a in
    let b = terms_of c.loop-term.term-iterator.b in
    let e : assign a b d x ≡ d = elim c.in-None.ensures.steps [ inl p ↦ assign_row x a b d p.1.0 | inr p ↦ assign_cells x a b d p.1.0 ] in
    ap (λ (t : Term). unwrap_or (get_or c.loop-term.said x None) t) (sym e) ∙ c.loop-term.invariant.3 x d h
