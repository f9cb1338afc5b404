use Rattle.std.proofs.Common.{rules, ◌≡◌, ◌∙◌, ◌+◌, ◌-◌, ◌*◌, ◌∷◌, drop, refl, sym, arith}
use Rattle.question.specs.Layout.{lines_out}
use Rattle.question.specs.Lent.{line_of, lines_of}
use Rattle.question.proofs.Chunks.{line_few}
use Rattle.question.proofs.Coming.{next-dropped, next-below}
use Rattle.question.proofs.Writing.{line-more}
use Rattle.question.proofs.lines.Lines.write_each.Goals as goal

pub loop-i-init : goal.loop-i-init
unfolding lines_out
loop-i-init g c =
    let e = c.into_iter-i-iterator.ensures.into_iter_gives in
    (search rules, search rules, rw (e, c.enumerate-i-items.ensures.count) (omega arith), rw (e, c.enumerate-i-items.ensures.count, c.enumerate-i-items.ensures.source) refl, rw (e, c.enumerate-i-items.ensures.count) refl, rw (e, c.enumerate-i-items.ensures.count) refl)

pub loop-i-preserved : goal.loop-i-preserved
loop-i-preserved g c =
    let ls = lines_of c.args.self.now in
    let l = line_of c.in-Some.line in
    let n = c.loop-i.i-iterator.count in
    let s = c.in-Some.ensures.steps in
    let next = sym c.loop-i.invariant.3 ∙ s.0 in
    let rest = next-dropped n ls l _ next in
    let below = next-below n ls l _ next in
    let whole : drop n ls ≡ l ∷ drop (n + 1) ls = rw (← rest) next in
    let few = line_few g.row.LIMIT c.in-Some.line.numbers.now c.in-Some.line.fits in
    let more = line-more n (10 * n + 10 - 10 * n) ls l c.args.out.now c.loop-i.out below whole few (omega arith) (c.loop-i.invariant.4, c.loop-i.invariant.5) in
    (search rules, search rules, rw s.2 (omega (arith, below)), rw s.2 rest, rw s.2 more.0, rw (s.2, s.1, c.write.ensures) more.1)
