use Rattle.std.proofs.Common.{rules, ◌≡◌, length, sym, ◌∙◌, arith}
use Rattle.std.proofs.lemmas.Bool.Decides.{nat_tests}
use Rattle.question.specs.Lent.{line_of}
use Rattle.reports.proofs.Widths.{width-next, width_stop, width_end}
use Rattle.reports.proofs.check.same_width.Goals as goal
use Rattle.reports.proofs.check.same_width.Goals.{else-table-via-then-table+else-width, else-table-via-else-table}

pub returns-then-width : goal.returns-then-width
returns-then-width c =
    let m = line_of c.in-Some.other in
    let l = line_of c.args.line.now in
    let t : m.table ≡ l.table = grind (arith, nat_tests) in
    let w : length m.cells ≡ length l.cells → ⊥ = grind (arith, nat_tests) in
    sym (width_stop _ _ m l c.in-Some.ensures.steps t w) ∙ c.loop-other.invariant.2 ∙ search rules

pub loop-other-preserved : goal.loop-other-preserved
loop-other-preserved c =
    let m = line_of c.in-Some.other in
    let l = line_of c.args.line.now in
    let f : m.table ≡ l.table → length m.cells ≡ length l.cells = λ e. elim c.else-table.branch [
      | else-table-via-then-table+else-width w ↦ grind (arith, nat_tests)
      | else-table-via-else-table w ↦ absurd (grind (arith, nat_tests))
    ] in
    (tt, tt, sym (width-next _ _ m l c.in-Some.ensures.steps f) ∙ c.loop-other.invariant.2)

pub returns : goal.returns
returns c = sym (width_end _ (line_of c.args.line.now) c.in-None.ensures.steps.0) ∙ c.loop-other.invariant.2 ∙ search rules
