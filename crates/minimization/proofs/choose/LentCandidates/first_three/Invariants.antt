use Rattle.std.proofs.Common.{◌≡◌, None, length}
use Rattle.question.specs.Lent.{lines_of}
use Rattle.minimization.specs.Choices.{choices, first_right}
use Rattle.minimization.specs.Meant.{meant}
use Rattle.minimization.proofs.Taken.{Each}
use Rattle.minimization.proofs.After.{left}
use Rattle.minimization.proofs.choose.LentCandidates.first_three.Given as goal

abbrev pub invariant-found : goal.invariant-found
invariant-found g l =
    let f = g.T.PartialTest.decides l.self.test.now in
    let takes = g.T.PartialTest.takes l.self.test.now in
    (l.first ≡ None) × (left f (meant l.none) 3 (lines_of l.behind_a) None ≡ first_right f (choices 3 (lines_of l.self.lines))) × Each takes (lines_of l.behind_a)

abbrev pub decreases-found : goal.decreases-found
decreases-found g l = length (lines_of l.behind_a)

abbrev pub invariant-loop-b : goal.invariant-loop-b
invariant-loop-b g l =
    let f = g.T.PartialTest.decides l.self.test.now in
    let takes = g.T.PartialTest.takes l.self.test.now in
    (l.first ≡ None) × (left f (meant l.one) 2 (lines_of l.behind_b) (left f (meant l.none) 3 (lines_of l.behind_a) None) ≡ first_right f (choices 3 (lines_of l.self.lines))) × Each takes (lines_of l.behind_b)

abbrev pub decreases-loop-b : goal.decreases-loop-b
decreases-loop-b g l = length (lines_of l.behind_b)
