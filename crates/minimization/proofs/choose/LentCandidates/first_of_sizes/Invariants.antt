use Rattle.std.proofs.Common.{◌≡◌, ◌+◌, ◌-◌}
use Rattle.question.specs.Lent.{lines_of}
use Rattle.minimization.specs.Choices.{by_size}
use Rattle.minimization.proofs.choose.LentCandidates.first_of_sizes.Given as goal

abbrev pub invariant-loop-n : goal.invariant-loop-n
invariant-loop-n g l =
    let sizes = by_size (g.T.PartialTest.decides l.self.test.now) (lines_of l.self.lines) in
    sizes (l.most + 1 - l.n) l.n ≡ sizes l.most 1
