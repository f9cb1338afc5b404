use Rattle.std.proofs.Common.{rules}
use Rattle.rewriting.proofs.line.FoundLineDisplay.fmt.Goals as goal

pub of_checked-requires : goal.of_checked-requires
of_checked-requires g c = c.args.self.now.stands c.in-By.field-0 c.in-By.is
