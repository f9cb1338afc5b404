use Rattle.rewriting.proofs.Trying.{will_do_exact}
use Rattle.rewriting.proofs.laws.one_reading_decides.Goals as goal

pub returns : goal.returns
returns c = will_do_exact
