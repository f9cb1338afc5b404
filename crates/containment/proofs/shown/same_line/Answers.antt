use Rattle.std.proofs.Common.{◌≡◌, ◌∙◌, refl, arith}
use Rattle.std.proofs.lemmas.Bool.Decides.{nat_tests}
use Rattle.question.specs.Lent.{terms_of, line_of}
use Rattle.containment.specs.OwnNumbers.{terms_eqb, line_eqb}
use Rattle.containment.proofs.Same.{same-terms}
use Rattle.containment.proofs.shown.same_line.Goals as goal

pub returns-then-table : goal.returns-then-table
unfolding line_eqb
returns-then-table c =
    let same : c.eq.result ≡ terms_eqb (terms_of c.terms.result) (terms_of c.terms-then-table.result) = same-terms _ (λ m n. refl) (λ m y. refl) (λ x n. refl) (λ x y. refl) terms_of _ _ c.eq.result c.eq.ensures.ran in
    let e : c.eq.result ≡ terms_eqb (line_of c.args.a.now).cells (line_of c.args.b.now).cells = same ∙ rw (c.terms.ensures, c.terms-then-table.ensures) refl in
    grind (arith, nat_tests)

pub returns-else-table : goal.returns-else-table
unfolding line_eqb
returns-else-table c = grind (arith, nat_tests)
