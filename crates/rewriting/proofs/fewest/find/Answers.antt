use Rattle.std.proofs.Common.{◌∙◌}
use Rattle.rewriting.specs.Answer.{find_says}
use Rattle.rewriting.proofs.Telling.{numbered}
use Rattle.rewriting.proofs.fewest.find.Goals as goal

pub returns-clause-numbered : goal.returns-clause-numbered
unfolding find_says
returns-clause-numbered c = numbered _ _ _ (c.from.ensures ∙ c.found.ensures.told)
