use Rattle.std.proofs.Common.{◌∙◌, ap}
use Rattle.question.specs.Lent.{lines_of}
use Rattle.minimization.specs.Choices.{first_after}
use Rattle.minimization.proofs.After.{after_none}
use Rattle.minimization.proofs.choose.LentCandidates.first_one.Goals as goal

pub returns : goal.returns
returns g c =
    let f = g.T.PartialTest.decides c.args.self.now.test.now in
    let ws = lines_of c.args.self.now.lines in
    c.first_with.ensures ∙ ap (λ p. first_after f p 1 ws) c.nothing.ensures ∙ after_none f 1 ws
