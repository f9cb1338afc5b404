use Rattle.std.proofs.Common.{◌≡◌, length, Some, None, ap, ◌∙◌}
use Rattle.question.specs.Lent.{lines_of, question_of}
use Rattle.minimization.specs.Meant.{meant}
use Rattle.reports.specs.Lent.{reports_of}
use Rattle.rewriting.specs.Found.{over_lines, find}
use Rattle.rewriting.proofs.Telling.{found-by}
use Rattle.rewriting.proofs.fewest.write_fewest.Goals as goal

pub returns-in_err-chosen : goal.returns-in_err-chosen
returns-in_err-chosen c =
    let q = question_of c.args.test.now.question in
    let rs = reports_of c.args.test.now.reports in
    let e : find rs 16 16 q ≡ None = found-by rs q (lines_of c.lines.result) c.count_left-most.result None (c.lines.ensures.lines ∙ c.requires.wide) (c.count_left-most.ensures ∙ ap length c.lines-2.ensures.lines) c.in_err-chosen.ensures in
    record { told = rw e c.from_residual.ensures; written = rw e }

pub returns : goal.returns
returns c =
    let q = question_of c.args.test.now.question in
    let rs = reports_of c.args.test.now.reports in
    let ls = meant c.in_ok-chosen.chosen in
    let e : find rs 16 16 q ≡ Some (over_lines q ls) = found-by rs q (lines_of c.lines.result) c.count_left-most.result (Some ls) (c.lines.ensures.lines ∙ c.requires.wide) (c.count_left-most.ensures ∙ ap length c.lines-2.ensures.lines) c.in_ok-chosen.ensures in
    record { told = rw e (ap Some (c.count_left.ensures ∙ ap length c.lines-lines.ensures.lines)); written = rw (e, ← c.lines-lines.ensures.lines) c.write_with.ensures }
