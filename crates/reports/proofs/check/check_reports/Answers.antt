use Rattle.std.proofs.Common.{◌≡◌, length, get_or, Some, None, Err, sym, ap, ◌∙◌, arith}
use Rattle.std.specs.Option.{option_map}
use Rattle.std.proofs.lemmas.Bool.Decides.{nat_tests}
use Rattle.std.proofs.lemmas.Result.{err_from_is_err_and}
use Rattle.question.specs.declared.refusals.Refusal.TheVariants.{CutShort, NoReport}
use Rattle.question.specs.Check.{question_refusal}
use Rattle.question.specs.Lent.{question_of}
use Rattle.reports.specs.Check.{report_fault, reports_short, reports_refusal}
use Rattle.reports.proofs.Asking.{asked}
use Rattle.reports.proofs.Admitted.{refused}
use Rattle.reports.proofs.Lent.{length-reports_in, are_reports}
use Rattle.reports.proofs.Parts.{length-parts, parts-few, fault-lent}
use Rattle.reports.proofs.check.check_reports.Goals as goal

pub returns-then-question-lt50 : goal.returns-then-question-lt50
unfolding reports_refusal
returns-then-question-lt50 c =
    let told : reports_refusal c.args.question.now c.args.reports.now ≡ Some (CutShort (length c.args.question.now)) = grind (arith, nat_tests) in
    record { told = told; meant = refused c.args.question.now c.args.reports.now _ told; kept = tt }

pub returns-in_err-parts : goal.returns-in_err-parts
unfolding reports_refusal
returns-in_err-parts c =
    let p = err_from_is_err_and c.from_residual.result c.from_residual.ensures.1 in
    let e = c.in_err-parts.field-0.0 in
    let s : reports_short c.args.reports.now ≡ Some (CutShort (length c.args.reports.now)) = rw c.in_err-parts.ensures.ok_part at c.lent_parts.ensures in
    let t : Err e ≡ Err (CutShort (length c.args.reports.now)) = rw c.in_err-parts.ensures.ok_part at c.in_err-parts.ensures.value in
    let d : e ≡ CutShort (length c.args.reports.now) = cc in
    let told : reports_refusal c.args.question.now c.args.reports.now ≡ Some e = rw d (grind (arith, nat_tests)) in
    rw (p.1, p.2) (record { told = told; meant = refused c.args.question.now c.args.reports.now e told; kept = tt })

pub returns-in_err-question : goal.returns-in_err-question
unfolding reports_refusal
returns-in_err-question c =
    let p = err_from_is_err_and c.from_residual-in_err-question.result c.from_residual-in_err-question.ensures.1 in
    let e = c.in_err-question.field-0.0 in
    let s : reports_short c.args.reports.now ≡ None = (rw c.in_ok-parts.ensures.ok_part at c.lent_parts.ensures).0 in
    let told : reports_refusal c.args.question.now c.args.reports.now ≡ Some e = grind (arith, nat_tests) in
    rw (p.1, p.2) (record { told = told; meant = refused c.args.question.now c.args.reports.now e told; kept = tt })

pub without_fault-requires : goal.without_fault-requires
without_fault-requires c =
    let s = rw c.in_ok-parts.ensures.ok_part at c.lent_parts.ensures in
    parts-few c.args.reports.now c.in_ok-parts.parts.now s.0 s.1

pub returns-in_err-without_fault : goal.returns-in_err-without_fault
unfolding reports_refusal
returns-in_err-without_fault c =
    let p = err_from_is_err_and c.from_residual-in_err-without_fault.result c.from_residual-in_err-without_fault.ensures.1 in
    let e = c.in_err-without_fault.field-0.0 in
    let s = rw c.in_ok-parts.ensures.ok_part at c.lent_parts.ensures in
    let none : reports_short c.args.reports.now ≡ None = s.0 in
    let q : question_refusal c.args.question.now ≡ None = c.in_ok-question.ensures.told.0 in
    let f : option_map NoReport (report_fault c.args.question.now c.args.reports.now (get_or c.args.reports.now 0 0) 0) ≡ Some e
    = ap (option_map NoReport) (sym (fault-lent c.args.question.now c.args.reports.now c.in_ok-parts.parts.now (question_of c.in_ok-question.question) s.1 c.in_ok-question.ensures.told.1)) ∙ c.in_err-without_fault.ensures in
    let told : reports_refusal c.args.question.now c.args.reports.now ≡ Some e = grind (arith, nat_tests) in
    rw (p.1, p.2) (record { told = told; meant = refused c.args.question.now c.args.reports.now e told; kept = tt })

pub returns : goal.returns
unfolding reports_refusal
returns c =
    let s = rw c.in_ok-parts.ensures.ok_part at c.lent_parts.ensures in
    let none : reports_short c.args.reports.now ≡ None = s.0 in
    let q : question_refusal c.args.question.now ≡ None = c.in_ok-question.ensures.told.0 in
    let f : report_fault c.args.question.now c.args.reports.now (get_or c.args.reports.now 0 0) 0 ≡ None
    = sym (fault-lent c.args.question.now c.args.reports.now c.in_ok-parts.parts.now (question_of c.in_ok-question.question) s.1 c.in_ok-question.ensures.told.1) ∙ c.in_ok-without_fault.ensures in
    let told : reports_refusal c.args.question.now c.args.reports.now ≡ None = grind (arith, nat_tests) in
    record {
      told = (told, ap length s.1 ∙ length-parts c.args.reports.now ∙ sym (length-reports_in c.args.reports.now));
      meant = asked c.args.question.now c.args.reports.now told;
      kept = are_reports c.args.question.now c.args.reports.now told;
    }
