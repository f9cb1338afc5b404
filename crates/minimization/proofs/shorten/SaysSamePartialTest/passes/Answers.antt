use Rattle.minimization.specs.Least.{says_same}
use Rattle.minimization.proofs.shorten.SaysSamePartialTest.passes.Goals as goal

pub returns : goal.returns
unfolding says_same
returns c = c.reads_into.ensures
