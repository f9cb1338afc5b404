use Rattle.reports.proofs.OwnUses.{by_the_widest}
use Rattle.reports.proofs.laws.the_widest_decides.Goals as goal

pub returns : goal.returns
returns c = by_the_widest
