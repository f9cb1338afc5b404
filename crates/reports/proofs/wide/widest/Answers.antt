use Rattle.std.proofs.Common.{rules, ◌≡◌, ◌<◌, ◌≤◌, List, map, length, sym, ap, ◌∙◌, subst, arith}
use Rattle.std.proofs.lemmas.Result.{err_from_is_err_and}
use Rattle.std.proofs.lemmas.List.{length-map}
use Rattle.question.specs.Question.{Line}
use Rattle.question.specs.Layout.{question_in}
use Rattle.question.specs.Lent.{question_of}
use Rattle.containment.specs.Search.{nothing}
use Rattle.reports.specs.Widest.{use_of, all_readings, widest}
use Rattle.reports.specs.Uses.{lines_kept, insert_all}
use Rattle.reports.specs.Lent.{reports_of}
use Rattle.reports.proofs.Sorting.{too_wide, not_too_wide}
use Rattle.reports.proofs.EachReport.{uses-none, uses-more, uses-over, uses_end}
use Rattle.reports.proofs.Parts.{parts-sound}
use Rattle.reports.proofs.Kept.{kept_few}
use Rattle.reports.proofs.wide.widest.Goals as goal

pub loop-t-init : goal.loop-t-init
loop-t-init c =
    let rs = reports_of c.args.reports.now in
    let e = c.into_iter-t-iterator.ensures.into_iter_gives in
    let n : length rs ≤ 8 = rw (length-map c.args.reports.now.left.now question_in) c.args.reports.now.few in
    (search rules, search rules, rw (e, c.enumerate-t-items.ensures.count, c.enumerate-t-items.ensures.source) (omega (arith, n)), rw (e, c.enumerate-t-items.ensures.count, c.enumerate-t-items.ensures.source) (uses-none rs (question_of c.args.question.now) (lines_kept c.none-uses.result) c.none-uses.ensures))

pub returns-in_err-keep_uses : goal.returns-in_err-keep_uses
returns-in_err-keep_uses c =
    let rs = reports_of c.args.reports.now in
    let q = question_of c.args.question.now in
    let r = question_of c.in-Some.report in
    let s = c.in-Some.ensures.steps in
    let p = err_from_is_err_and c.from_residual.result c.from_residual.ensures.1 in
    let n = c.loop-t.t-iterator.count in
    let h : 32 < length (insert_all (map (use_of n r) (all_readings r.lines q.lines nothing)) (lines_kept c.loop-t.uses)) = rw (s.1, c.lines-lines.ensures.lines, c.nothing.ensures) at c.in_err-keep_uses.ensures.1 in
    let w : 32 < length (widest rs q).lines = subst (λ (ls : List Line). 32 < length ls) c.loop-t.invariant.3 (uses-over (reports_of c.loop-t.t-iterator.iter) (reports_of c.next.new.self.iter) q r (lines_kept c.loop-t.uses) n s.0 h) in
    rw (p.1, p.2) (record { told = (c.in_err-keep_uses.ensures.0, w); meant = too_wide rs q (parts-sound c.args.reports.now.left.now c.args.reports.now.checked) w })

pub loop-t-preserved : goal.loop-t-preserved
loop-t-preserved c =
    let q = question_of c.args.question.now in
    let r = question_of c.in-Some.report in
    let s = c.in-Some.ensures.steps in
    let n = c.loop-t.t-iterator.count in
    let k : lines_kept c.keep_uses.new.uses ≡ insert_all (map (use_of n r) (all_readings r.lines q.lines nothing)) (lines_kept c.loop-t.uses) = c.in_ok-keep_uses.ensures ∙ rw (s.1, c.lines-lines.ensures.lines, c.nothing.ensures) in
    let e = uses-more (reports_of c.loop-t.t-iterator.iter) (reports_of c.next.new.self.iter) q r (lines_kept c.loop-t.uses) n s.0 in
    (search rules, search rules, rw s.2 (omega (arith, ap length s.0, c.loop-t.invariant.2)), rw (s.2, k) (sym e ∙ c.loop-t.invariant.3))

pub returns : goal.returns
returns c =
    let rs = reports_of c.args.reports.now in
    let q = question_of c.args.question.now in
    let u = c.loop-t.uses in
    let e : lines_kept u ≡ (widest rs q).lines = sym (uses_end (reports_of c.loop-t.t-iterator.iter) q (lines_kept u) _ c.in-None.ensures.steps.0.0) ∙ c.loop-t.invariant.3 in
    let few : length (widest rs q).lines ≤ 32 = omega (arith, ap length e, kept_few u) in
    record { told = e; meant = not_too_wide rs q (parts-sound c.args.reports.now.left.now c.args.reports.now.checked) few }
