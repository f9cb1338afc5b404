use Rattle.std.proofs.Common.{get_or, drop, arith}
use Rattle.std.proofs.lemmas.Bool.Decides.{nat_tests}
use Rattle.question.specs.Layout.{line_fits}
use Rattle.question.proofs.Fitting.{few_terms_take}
use Rattle.question.proofs.fits.line_fits.Goals as goal

pub returns-then-width-le4 : goal.returns-then-width-le4
unfolding line_fits
returns-then-width-le4 c = let e = few_terms_take 16 (get_or c.args.line.now 1 0) 8 (drop 2 c.args.line.now) (omega arith) in grind (arith, nat_tests)

pub returns-else-width-le4 : goal.returns-else-width-le4
unfolding line_fits
returns-else-width-le4 c = grind (arith, nat_tests)
