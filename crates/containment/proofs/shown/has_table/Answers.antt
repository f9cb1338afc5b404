use Rattle.std.proofs.Common.{rules, ◌≡◌, ◌∙◌, true, false, sym, arith}
use Rattle.std.proofs.lemmas.Bool.Decides.{nat_tests}
use Rattle.question.specs.Lent.{line_of}
use Rattle.containment.specs.OwnNumbers.{one_table}
use Rattle.containment.proofs.Turns.{has_first, has_rest, has_none}
use Rattle.containment.proofs.shown.has_table.Goals as goal

pub returns-then-table : goal.returns-then-table
returns-then-table c =
    let e : one_table (line_of c.in-Some.other) (line_of c.args.line.now) ≡ true = grind (arith, nat_tests) in
    sym (has_first one_table _ (line_of c.in-Some.other) _ (line_of c.args.line.now) c.in-Some.ensures.steps e) ∙ c.loop-other.invariant.2 ∙ search rules

pub loop-other-preserved : goal.loop-other-preserved
loop-other-preserved c =
    let e : one_table (line_of c.in-Some.other) (line_of c.args.line.now) ≡ false = grind (arith, nat_tests) in
    (tt, tt, sym (has_rest one_table _ (line_of c.in-Some.other) _ (line_of c.args.line.now) c.in-Some.ensures.steps e) ∙ c.loop-other.invariant.2)

pub returns : goal.returns
returns c = sym (has_none one_table _ (line_of c.args.line.now) c.in-None.ensures.steps.0) ∙ c.loop-other.invariant.2 ∙ search rules
