use Rattle.std.proofs.Common.{rules, ◌∙◌, sym, arith}
use Rattle.std.proofs.lemmas.Bool.Decides.{nat_tests}
use Rattle.question.specs.Lent.{line_of}
use Rattle.containment.proofs.Numbering.{names_line, names_no_line}
use Rattle.containment.proofs.fresh.lines_name.Goals as goal

pub returns-then-terms_name : goal.returns-then-terms_name
returns-then-terms_name c = let e = names_line c.args.n _ (line_of c.in-Some.line) _ c.in-Some.ensures.steps in grind (arith, nat_tests)

pub loop-line-preserved : goal.loop-line-preserved
loop-line-preserved c = let e = names_line c.args.n _ (line_of c.in-Some.line) _ c.in-Some.ensures.steps in (tt, tt, grind (arith, nat_tests))

pub returns : goal.returns
returns c = sym (names_no_line c.args.n _ c.in-None.ensures.steps.0) ∙ c.loop-line.invariant.2 ∙ search rules
