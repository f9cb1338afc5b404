use Rattle.std.proofs.Common.{rules, tests, ◌≡◌, ◌∙◌, sym, inl, inr}
use Rattle.question.specs.declared.terms.Term.TheVariants.{Variable}
use Rattle.answer.proofs.Takings.{number_stop, number_next, number_end, number_no_cell}
use Rattle.answer.proofs.copies.one_number.Goals as goal
use Rattle.answer.proofs.copies.one_number.Goals.{else-eq-via-then-eq+else-cell-number, else-eq-via-else-eq}

pub returns-then-cell-number : goal.returns-then-cell-number
returns-then-cell-number c =
    let s = c.in-Some.ensures.steps in
    let e : c.in-Some.term.now ≡ Variable c.args.x = search (rules, tests) in
    sym (number_stop c.args.x c.args.number _ _ _ _ _ (rw e at s.0) s.1 c.if-cell-number.true) ∙ c.loop-term.invariant.2

pub loop-term-preserved : goal.loop-term-preserved
loop-term-preserved c =
    let s = c.in-Some.ensures.steps in
    let go : c.in-Some.term.now ≡ Variable c.args.x → c.in-Some.cell.now ≡ c.args.number = λ e. (elim c.else-eq.branch [
      | else-eq-via-then-eq+else-cell-number w ↦ w.if-cell-number.false
      | else-eq-via-else-eq w ↦ (let h = w.if-eq.false in let i = c.eq.ensures in search (rules, tests))
    ]) in
    (search rules, search rules, sym (number_next c.args.x c.args.number _ _ _ _ _ _ s.0 s.1 go) ∙ c.loop-term.invariant.2)

pub returns : goal.returns
returns c = elim c.in-None.ensures.steps [
  | inl p ↦ sym (number_end c.args.x c.args.number _ _ p.1.0) ∙ c.loop-term.invariant.2
  | inr p ↦ sym (number_no_cell c.args.x c.args.number _ _ p.1.0) ∙ c.loop-term.invariant.2
]
