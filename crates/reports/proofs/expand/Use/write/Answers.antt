use Rattle.std.proofs.Common.{◌≡◌, ◌+◌, ◌≤◌, [], ◌∷◌, ◌++◌, length, ap, ◌∙◌, arith, length-append}
use Rattle.question.specs.Layout.{line_in, line_out}
use Rattle.question.specs.Lent.{line_of, lines_of, question_of}
use Rattle.question.proofs.Chunks.{line_few}
use Rattle.question.proofs.Written.{fits-within-cells}
use Rattle.containment.specs.Reading.{line_put}
use Rattle.reports.specs.Expand.{row_put}
use Rattle.reports.specs.Lent.{expanded_lines}
use Rattle.reports.proofs.Filling.{line-back}
use Rattle.reports.proofs.Under.{put_fits}
use Rattle.reports.proofs.Written.{lines-more, lines-done}
use Rattle.reports.proofs.expand.Use.write.Goals as goal

pub line_put-requires : goal.line_put-requires
line_put-requires c = rw c.terms.ensures (line_few 16 c.in-Some.line.numbers.now c.in-Some.line.fits)

pub add-requires-clause-fits : goal.add-requires-clause-fits
unfolding line_put
add-requires-clause-fits c =
    let u = c.args.self.now.used in
    put_fits (question_of c.args.self.now.report).row (line_of u).cells c.args.self.now.base c.in-Some.line.numbers.now c.line_put.result c.in-Some.line.fits (fits-within-cells u.numbers.now u.fits).each c.args.self.now.room
    (c.line_put.ensures.put ∙ rw (c.table.ensures, c.terms.ensures)) c.line_put.ensures.ten

pub loop-line-preserved : goal.loop-line-preserved
unfolding line_put
loop-line-preserved c =
    let h = row_put (question_of c.args.self.now.report).row (line_of c.args.self.now.used).cells c.args.self.now.base in
    let l = line_of c.in-Some.line in
    let e : c.line_put.result ≡ line_out (line_put h l) = c.line_put.ensures.put ∙ rw (c.table.ensures, c.terms.ensures) in
    let n : expanded_lines c.add.new.self ≡ expanded_lines c.loop-line.to ++ line_put h l ∷ [] = c.add.ensures ∙ ap (λ k. expanded_lines c.loop-line.to ++ k ∷ []) (ap line_in e ∙ line-back (line_put h l)) in
    let s = c.in-Some.ensures.steps in
    let few : length (expanded_lines c.add.new.self) + length (lines_of c.next.new.self) ≤ 16 = omega (arith, ap length n ∙ length-append (expanded_lines c.loop-line.to) (line_put h l ∷ []), ap length s, c.loop-line.invariant.2) in
    (tt, tt, few, lines-more h (expanded_lines c.loop-line.to) (expanded_lines c.add.new.self) (lines_of c.loop-line.line-iterator) (lines_of c.next.new.self) l s n ∙ c.loop-line.invariant.3)

pub returns : goal.returns
returns c =
    let h = row_put (question_of c.args.self.now.report).row (line_of c.args.self.now.used).cells c.args.self.now.base in
    lines-done h (expanded_lines c.loop-line.to) (lines_of c.loop-line.line-iterator) c.in-None.ensures.steps.0 ∙ c.loop-line.invariant.3 ∙ rw (c.into_iter-line-iterator.ensures.into_iter_gives, c.lines-line-items.ensures.lines)
