use Rattle.std.proofs.Common.{rules, ◌∙◌, length, sym, refl, inl, ap, zero-add, arith}
use Rattle.question.specs.Lent.{line_of, lines_of}
use Rattle.question.proofs.Coming.{next-dropped}
use Rattle.containment.specs.OwnNumbers.{table_heads}
use Rattle.containment.proofs.Turns.{heads_next, heads_end}
use Rattle.containment.proofs.shown.OwnTables.count.Goals as goal

pub loop-i-init : goal.loop-i-init
unfolding table_heads
loop-i-init c =
    let e = c.into_iter-i-iterator.ensures.into_iter_gives in
    ((tt, tt, inl (rw (e, c.enumerate-i-items.ensures.count, c.enumerate-i-items.ensures.source) (omega (arith, c.args.self.now.few)))), search rules, omega arith, rw (e, c.enumerate-i-items.ensures.count, c.enumerate-i-items.ensures.source) refl, rw (e, c.enumerate-i-items.ensures.count) (zero-add _))

pub loop-i-preserved-then-not-has_table : goal.loop-i-preserved-then-not-has_table
loop-i-preserved-then-not-has_table c =
    let ls = lines_of c.args.self.now.lines in
    let n = c.loop-i.i-iterator.count in
    let s = c.in-Some.ensures.steps in
    let next = sym c.loop-i.invariant.3 ∙ s.0 in
    let named = sym c.if-not-has_table.true ∙ rw (c.front.ensures, s.1) at c.has_table.ensures in (
      search rules,
      search rules,
      omega (arith, s.2, c.loop-i.invariant.2),
      rw s.2 (next-dropped n ls (line_of c.in-Some.line) _ next),
      rw s.2 (omega (arith, c.loop-i.invariant.4, ap length (heads_next n ls (line_of c.in-Some.line) _ _ next named))),
    )

pub loop-i-preserved : goal.loop-i-preserved
loop-i-preserved c =
    let ls = lines_of c.args.self.now.lines in
    let n = c.loop-i.i-iterator.count in
    let s = c.in-Some.ensures.steps in
    let next = sym c.loop-i.invariant.3 ∙ s.0 in
    let named = sym c.if-not-has_table.false ∙ rw (c.front.ensures, s.1) at c.has_table.ensures in (
      search rules,
      search rules,
      omega (arith, s.2, c.loop-i.invariant.2),
      rw s.2 (next-dropped n ls (line_of c.in-Some.line) _ next),
      rw s.2 (omega (arith, c.loop-i.invariant.4, ap length (heads_next n ls (line_of c.in-Some.line) _ _ next named))),
    )

pub returns : goal.returns
returns c =
    let ls = lines_of c.args.self.now.lines in
    let n = c.loop-i.i-iterator.count in
    omega (arith, c.loop-i.invariant.4, ap length (heads_end n ls (sym c.loop-i.invariant.3 ∙ c.in-None.ensures.steps.0.0)))
