use Rattle.std.proofs.Common.{rules, tests, ◌∙◌, [], ◌∷◌, refl}
use Rattle.std.proofs.lemmas.Iterator.Search.{any_from_yields_List}
use Rattle.std.proofs.lemmas.Iterator.Consumers.{YieldsList-from_first}
use Rattle.question.specs.Sound.{has, vars}
use Rattle.question.specs.Lent.{terms_of}
use Rattle.question.proofs.Standing.{has-any}
use Rattle.question.proofs.terms.Terms.have.Goals as goal

pub returns : goal.returns
unfolding has vars
returns g c =
    any_from_yields_List (λ t. has (vars (t ∷ [])) c.args.x) c.any.new.self _ c.any.result c.any.ensures.ran (YieldsList-from_first (λ t. t) terms_of (terms_of c.args.self.now) refl) (λ t b q k. search (rules, tests))
    ∙ has-any c.args.x (terms_of c.args.self.now)
