use Rattle.std.proofs.Common.{rules, arith, ◌∙◌, get_or, sym}
use Rattle.question.specs.Lent.{lines_of}
use Rattle.question.proofs.Coming.{next-dropped, next-below}
use Rattle.answer.specs.Terms.{place_in}
use Rattle.answer.specs.Plan.{no_line}
use Rattle.answer.specs.Columns.{IsPlannedLine}
use Rattle.answer.proofs.Ordered.{next-at, each-pushed}
use Rattle.answer.proofs.columns.planned_lines.Goals as goal

pub loop-i-preserved : goal.loop-i-preserved
loop-i-preserved c =
    let ls = lines_of c.args.lines in
    let n = c.loop-i.i-iterator.count in
    let place = place_in c.args.codes.now.list.items in
    let s = c.in-Some.ensures.steps in
    let next = sym c.loop-i.invariant.3 ∙ s.0 in
    let rest = next-dropped n ls _ _ next in
    let below = next-below n ls _ _ next in
    let here = next-at n ls _ no_line _ next in
    let one : IsPlannedLine place (get_or ls n no_line).cells n c.of.result = rw (here, ← s.1) c.of.ensures in (
      search rules,
      search rules,
      rw s.2 (omega (arith, below)),
      rw s.2 rest,
      rw s.2 (omega (arith, c.push.ensures.len, c.loop-i.invariant.4)),
      rw (s.2, c.push.ensures.items) (each-pushed (λ j l. IsPlannedLine place (get_or ls j no_line).cells j l) c.loop-i.slots.items n c.of.result c.loop-i.invariant.4 c.loop-i.invariant.5 one),
    )
