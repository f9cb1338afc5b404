use Rattle.reports.proofs.Sorting.{too_wide_exact}
use Rattle.reports.proofs.laws.too_wide_is_exact.Goals as goal

pub returns : goal.returns
returns c = too_wide_exact
