use Rattle.std.proofs.Common.{◌≡◌, ℕ, ◌<◌, ◌≤◌, List, length, take, Some, Err, sym, refl, ap, ◌∙◌, subst, arith}
use Rattle.std.proofs.lemmas.Result.{err_from_is_err_and}
use Rattle.question.specs.declared.refusals.Refusal.TheVariants.{NoRoomForQuestion}
use Rattle.question.specs.Refusals.{number}
use Rattle.question.specs.Question.{Line, In}
use Rattle.question.specs.Layout.{question_in}
use Rattle.question.specs.Reports.{reports_in}
use Rattle.reports.specs.Uses.{lines_kept}
use Rattle.reports.specs.Widest.{widest, IsTooWide}
use Rattle.reports.proofs.Kept.{kept_few}
use Rattle.rewriting.proofs.Telling.{refused_first, refused_room, refused_wide, refused_not, not_wide, turned-away, answered, tens-within}
use Rattle.rewriting.proofs.fewest.found.Goals as goal

pub returns-in_err-question : goal.returns-in_err-question
returns-in_err-question c =
    let e = c.in_err-question.field-0.0 in
    let some = c.in_err-question.ensures.told in
    let p = err_from_is_err_and c.from_residual.result c.from_residual.ensures.1 in
    let r : c.from_residual.result ≡ Err e = rw (p.1, p.2) refl in
    let t = turned-away c.args.question.now c.args.reports.now c.args.out.now e (refused_first c.args.question.now c.args.reports.now c.args.out.now e some) (λ w. absurd (not_wide c.args.question.now c.args.reports.now e some w)) in
    record { told = rw r t.0; written = t.1; meant = rw r t.2 }

pub returns-then-out-lt50 : goal.returns-then-out-lt50
returns-then-out-lt50 c =
    let e = NoRoomForQuestion (length c.args.out.now) in
    let t = turned-away c.args.question.now c.args.reports.now c.args.out.now e (refused_room c.args.question.now c.args.reports.now c.args.out.now c.in_ok-question.ensures.told.0 c.if-out-lt50.true) (λ w. let z : ◌≡◌ {A = ℕ} 4 5 = ap number w in absurd (omega arith)) in
    record { told = t.0; written = t.1; meant = t.2 }

pub returns-in_err-uses : goal.returns-in_err-uses
returns-in_err-uses c =
    let e = c.in_err-uses.field-0.0 in
    let told = c.in_ok-question.ensures.told in
    let wide = c.in_err-uses.ensures in
    let many : 32 < length (widest (reports_in c.args.reports.now) (question_in c.args.question.now)).lines = rw (← told.1, ← told.2) wide.told.1 in
    let apart : IsTooWide (reports_in c.args.reports.now) (question_in c.args.question.now) = rw (← told.1, ← told.2) wide.meant in
    let p = err_from_is_err_and c.from_residual-in_err-uses.result c.from_residual-in_err-uses.ensures.1 in
    let r : c.from_residual-in_err-uses.result ≡ Err e = rw (p.1, p.2) refl in
    let t = turned-away c.args.question.now c.args.reports.now c.args.out.now e
    (refused_wide c.args.question.now c.args.reports.now c.args.out.now told.0 c.if-out-lt50.false many ∙ ap Some (sym wide.told.0)) (λ w. apart) in
    record { told = rw r t.0; written = t.1; meant = rw r t.2 }

pub returns : goal.returns
returns c =
    let told = c.in_ok-question.ensures.told in
    let uses = c.in_ok-uses.uses in
    let is : lines_kept uses ≡ (widest (reports_in c.args.reports.now) (question_in c.args.question.now)).lines = rw (← told.1, ← told.2) c.in_ok-uses.ensures.told in
    let few : length (widest (reports_in c.args.reports.now) (question_in c.args.question.now)).lines ≤ 32 = omega (arith, ap length is, kept_few uses) in
    let t = answered c.args.question.now c.args.reports.now c.args.out.now c.write_fewest.new.out c.write_fewest.result
    (refused_not c.args.question.now c.args.reports.now c.args.out.now told.0 c.if-out-lt50.false few) c.in_ok-question.ensures.meant
    (λ l i. tens-within (take uses.count uses.lines) uses.fit l (subst (λ (ls : List Line). In l ls) (sym is) i))
    (rw (← told.1, ← told.2) c.write_fewest.ensures.told) (rw (← told.1, ← told.2) c.write_fewest.ensures.written) in
    record { told = t.0; written = t.1; meant = t.2 }
