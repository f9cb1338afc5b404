use Rattle.std.proofs.lemmas.Iterator.{items_from_collect}
use Rattle.std.proofs.lemmas.Iterator.Consumers.{YieldsList-from_first}
use Rattle.question.specs.Lent.{terms_of, line_of}
use Rattle.answer.proofs.copies.read_terms.Goals as goal

pub returns : goal.returns
returns c = items_from_collect _ c.collect.ensures.ran (YieldsList-from_first (λ t. t) terms_of (line_of c.args.line.now).cells c.terms.ensures)
