use Rattle.std.proofs.Common.{rules, ◌≡◌, ◌+◌, ◌*◌, ◌++◌, length, get_or, ap, ◌∙◌, arith, length-append}
use Rattle.question.specs.Lent.{line_of, lines_of, question_of}
use Rattle.question.proofs.Accepted.{allowed}
use Rattle.containment.specs.Reading.{put_lines}
use Rattle.containment.proofs.Readings.{length-put_lines}
use Rattle.reports.specs.Reports.{no_question}
use Rattle.reports.specs.Expand.{row_put}
use Rattle.reports.specs.Lent.{reports_of, expanded_lines}
use Rattle.reports.proofs.Written.{use-more, use-none, uses-done}
use Rattle.reports.proofs.expand.expand_uses.Goals as goal

pub loop-k-preserved-in_default : goal.loop-k-preserved-in_default
loop-k-preserved-in_default c =
    let rs = reports_of c.args.reports.now in
    let n = c.loop-k.k-iterator.count in
    let s = c.in-Some.ensures.steps in
    let e = use-none rs n (expanded_lines c.loop-k.expanded) (lines_of c.loop-k.k-iterator.iter) _ (line_of c.in-Some.used) s.0 (omega (arith, c.in_default.ensures, c.table.ensures)) in
    (search rules, search rules, rw s.2 (omega (arith, ap length s.0, c.loop-k.invariant.2)), rw s.2 (omega (arith, c.loop-k.invariant.3)), rw s.2 (e ∙ c.loop-k.invariant.4))

pub write-requires : goal.write-requires
write-requires c =
    let few = (allowed _ c.in-Some-report.report.asked).few in
    omega (arith, ap length c.in-Some.ensures.steps.0, c.loop-k.invariant.2, c.loop-k.invariant.3, few)

pub loop-k-preserved : goal.loop-k-preserved
loop-k-preserved c =
    let rs = reports_of c.args.reports.now in
    let n = c.loop-k.k-iterator.count in
    let s = c.in-Some.ensures.steps in
    let few = (allowed _ c.in-Some-report.report.asked).few in
    let r = question_of c.in-Some-report.report in
    let h = row_put r.row (line_of c.in-Some.used).cells (16 + 16 * n) in
    let w : expanded_lines c.write.new.to ≡ expanded_lines c.loop-k.expanded ++ put_lines h r.lines = c.write.ensures ∙ rw s.1 in
    let is : r ≡ get_or rs (line_of c.in-Some.used).table no_question = c.in-Some-report.ensures.1 ∙ rw c.table.ensures in
    let l = ap length w ∙ length-append (expanded_lines c.loop-k.expanded) (put_lines h r.lines) in
    let e = use-more rs n (expanded_lines c.loop-k.expanded) (expanded_lines c.write.new.to) (lines_of c.loop-k.k-iterator.iter) _ (line_of c.in-Some.used) r s.0 is w in
    (search rules, search rules, rw s.2 (omega (arith, ap length s.0, c.loop-k.invariant.2)), rw s.2 (omega (arith, l, length-put_lines h r.lines, few, c.loop-k.invariant.3)), rw s.2 (e ∙ c.loop-k.invariant.4))

pub returns : goal.returns
returns c = uses-done (reports_of c.args.reports.now) _ (expanded_lines c.loop-k.expanded) (lines_of c.loop-k.k-iterator.iter) c.in-None.ensures.steps.0.0 ∙ c.loop-k.invariant.4
