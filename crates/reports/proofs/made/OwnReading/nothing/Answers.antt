use Rattle.std.proofs.Common.{sym, subst}
use Rattle.reports.proofs.Gathering.{Within, nothing-within, within-codes}
use Rattle.reports.proofs.made.OwnReading.nothing.Goals as goal

pub invariant_of-result : goal.invariant_of-result
invariant_of-result c = record { within = within-codes c.nothing.result.codes (subst Within (sym c.nothing.ensures) nothing-within) }
