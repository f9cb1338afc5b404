use Rattle.std.proofs.Common.{◌≡◌, true, false, sym, ap, ◌∙◌, arith}
use Rattle.std.specs.Option.{option_map}
use Rattle.std.proofs.lemmas.Bool.{and_from}
use Rattle.std.proofs.lemmas.List.Folds.{list_all_more}
use Rattle.question.specs.declared.refusals.Refusal.TheVariants.{NoReport}
use Rattle.question.specs.Lent.{question_of}
use Rattle.reports.specs.Check.{part_good, is_question}
use Rattle.reports.proofs.Parts.{part-next, part_stop, part_end, good_checked}
use Rattle.reports.proofs.check.without_fault.Goals as goal

pub returns-then-not-report_good : goal.returns-then-not-report_good
returns-then-not-report_good c =
    let ls = (question_of c.args.question.now).lines in
    let bad : part_good ls c.args.parts.now c.loop-i.i ≡ false = sym (c.report_good.ensures ∙ rw c.of_parts-before.ensures) ∙ c.if-not-report_good.true in
    ap (option_map NoReport) (sym c.loop-i.invariant.1 ∙ part_stop ls c.args.parts.now c.loop-i.i c.loop-i-test.true bad)

pub loop-i-preserved : goal.loop-i-preserved
loop-i-preserved c =
    let ls = (question_of c.args.question.now).lines in
    let good : part_good ls c.args.parts.now c.loop-i.i ≡ true = sym (c.report_good.ensures ∙ rw c.of_parts-before.ensures) ∙ c.if-not-report_good.false in (
      list_all_more is_question c.args.parts.now c.loop-i.i _ c.loop-i-test.true ∙ and_from _ _ c.loop-i.invariant.0 (good_checked ls c.args.parts.now c.loop-i.i good),
      sym (part-next ls c.args.parts.now c.loop-i.i c.loop-i-test.true good) ∙ c.loop-i.invariant.1,
    )

pub returns : goal.returns
returns c = sym c.loop-i.invariant.1 ∙ part_end _ c.args.parts.now c.loop-i.i (omega arith)
