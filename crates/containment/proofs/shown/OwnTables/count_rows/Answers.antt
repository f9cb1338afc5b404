use Rattle.std.proofs.Common.{rules, ◌∙◌, length, sym, refl, inl, ap, zero-add, arith}
use Rattle.question.specs.Lent.{line_of, lines_of}
use Rattle.question.proofs.Coming.{next-dropped}
use Rattle.containment.specs.OwnNumbers.{lines_once}
use Rattle.containment.proofs.Turns.{rows_next, rows_end}
use Rattle.containment.proofs.shown.OwnTables.count_rows.Goals as goal

pub loop-i-init : goal.loop-i-init
unfolding lines_once
loop-i-init c =
    let e = c.into_iter-i-iterator.ensures.into_iter_gives in
    ((tt, tt, inl (rw (e, c.enumerate-i-items.ensures.count, c.enumerate-i-items.ensures.source) (omega (arith, c.args.self.now.few)))), search rules, omega arith, rw (e, c.enumerate-i-items.ensures.count, c.enumerate-i-items.ensures.source) refl, λ v. rw (e, c.enumerate-i-items.ensures.count) (zero-add _))

pub loop-i-preserved-then-gives_row : goal.loop-i-preserved-then-gives_row
loop-i-preserved-then-gives_row c =
    let ls = lines_of c.args.self.now.lines in
    let n = c.loop-i.i-iterator.count in
    let s = c.in-Some.ensures.steps in
    let next = sym c.loop-i.invariant.3 ∙ s.0 in
    let gives = sym c.if-gives_row.true ∙ rw (c.front.ensures, s.1) at c.gives_row.ensures in (
      search rules,
      search rules,
      omega (arith, s.2, c.loop-i.invariant.2),
      rw s.2 (next-dropped n ls (line_of c.in-Some.line) _ next),
      λ v. rw s.2 (omega (arith, c.loop-i.invariant.4 v, ap length (rows_next v c.args.of n ls (line_of c.in-Some.line) _ _ next gives))),
    )

pub loop-i-preserved : goal.loop-i-preserved
loop-i-preserved c =
    let ls = lines_of c.args.self.now.lines in
    let n = c.loop-i.i-iterator.count in
    let s = c.in-Some.ensures.steps in
    let next = sym c.loop-i.invariant.3 ∙ s.0 in
    let gives = sym c.if-gives_row.false ∙ rw (c.front.ensures, s.1) at c.gives_row.ensures in (
      search rules,
      search rules,
      omega (arith, s.2, c.loop-i.invariant.2),
      rw s.2 (next-dropped n ls (line_of c.in-Some.line) _ next),
      λ v. rw s.2 (omega (arith, c.loop-i.invariant.4 v, ap length (rows_next v c.args.of n ls (line_of c.in-Some.line) _ _ next gives))),
    )

pub returns : goal.returns
returns c =
    let ls = lines_of c.args.self.now.lines in
    let n = c.loop-i.i-iterator.count in
    λ v. omega (arith, c.loop-i.invariant.4 v, ap length (rows_end v c.args.of n ls (sym c.loop-i.invariant.3 ∙ c.in-None.ensures.steps.0.0)))
