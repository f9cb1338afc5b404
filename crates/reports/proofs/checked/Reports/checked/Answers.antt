use Rattle.std.proofs.Common.{◌≡◌, ℕ, get_or, drop, ap, ◌∙◌, arith}
use Rattle.question.specs.Reports.{questions_in, reports_in}
use Rattle.reports.specs.Check.{report_part}
use Rattle.reports.proofs.Lent.{length-reports_in, passed}
use Rattle.reports.proofs.checked.Reports.checked.Goals as goal

pub of_checked-requires : goal.of_checked-requires
of_checked-requires c = (passed c.args.question.now c.args.reports.now c.in_ok-count.ensures.told.0).checked

pub first_of-requires : goal.first_of-requires
unfolding report_part
first_of-requires c =
    let a = c.in_ok-count.ensures.kept in
    let n : c.in_ok-count.count ≡ get_or c.args.reports.now 0 0 = c.in_ok-count.ensures.told.1 ∙ length-reports_in c.args.reports.now in
    record { each = λ i h. a.each i (omega (arith, n)); lent = (omega (arith, n, a.few), omega (arith, n, a.long)) }

pub returns-clause-told : goal.returns-clause-told
unfolding reports_in
returns-clause-told c =
    let n : c.in_ok-count.count ≡ get_or c.args.reports.now 0 0 = c.in_ok-count.ensures.told.1 ∙ length-reports_in c.args.reports.now in
    (c.in_ok-count.ensures.told.0, c.of_checked.ensures, c.first_of.ensures ∙ ap (λ (k : ℕ). questions_in k (drop 1 c.args.reports.now)) n)
