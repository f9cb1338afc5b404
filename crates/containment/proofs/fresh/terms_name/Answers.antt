use Rattle.std.proofs.Common.{rules, tests, ◌∙◌, [], ◌∷◌, refl}
use Rattle.std.proofs.lemmas.Iterator.Search.{any_from_yields_List}
use Rattle.std.proofs.lemmas.Iterator.Consumers.{YieldsList-from_first}
use Rattle.question.specs.Sound.{has}
use Rattle.question.specs.Lent.{terms_of}
use Rattle.containment.specs.OwnTables.{numbers}
use Rattle.containment.proofs.Numbering.{names-any}
use Rattle.containment.proofs.fresh.terms_name.Goals as goal

pub returns : goal.returns
unfolding has numbers
returns c =
    any_from_yields_List (λ t. has (numbers (t ∷ [])) c.args.n) c.any.new.self _ c.any.result c.any.ensures.ran (YieldsList-from_first (λ t. t) terms_of (terms_of c.args.terms.now) refl) (λ t b q k. search (rules, tests))
    ∙ names-any c.args.n (terms_of c.args.terms.now)
