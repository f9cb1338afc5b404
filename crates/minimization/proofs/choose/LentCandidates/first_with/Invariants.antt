use Rattle.std.proofs.Common.{◌≡◌, None}
use Rattle.question.specs.Lent.{lines_of}
use Rattle.minimization.specs.Choices.{first_after}
use Rattle.minimization.specs.Meant.{meant}
use Rattle.minimization.proofs.Taken.{Each}
use Rattle.minimization.proofs.After.{left}
use Rattle.minimization.proofs.choose.LentCandidates.first_with.Given as goal

abbrev pub invariant-loop-line : goal.invariant-loop-line
invariant-loop-line g l =
    let f = g.T.PartialTest.decides l.self.test.now in
    let takes = g.T.PartialTest.takes l.self.test.now in
    (goal.iterator-loop-line g).can_next l.line-iterator ×
    (goal.iterator-loop-line g).is_finite l.line-iterator ×
    (left f (meant l.chosen) 1 (lines_of l.line-iterator) None ≡ first_after f (meant l.chosen) 1 (lines_of l.behind)) ×
    Each takes (lines_of l.line-iterator)
