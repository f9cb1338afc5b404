use Rattle.std.proofs.Common.{◌+◌, Some, None, sym, ◌∙◌, arith}
use Rattle.question.specs.Lent.{lines_of}
use Rattle.minimization.specs.Meant.{meant}
use Rattle.minimization.proofs.After.{size_tried, size_end}
use Rattle.minimization.proofs.choose.LentCandidates.first_of_sizes.Goals as goal

pub returns-in-Some : goal.returns-in-Some
returns-in-Some g c = size_tried (g.T.PartialTest.decides c.args.self.now.test.now) (lines_of c.args.self.now.lines) c.args.most c.loop-n.n _ (Some (meant c.in-Some.first)) (omega arith) c.in-Some.ensures c.loop-n.invariant

pub loop-n-preserved : goal.loop-n-preserved
loop-n-preserved g c = size_tried (g.T.PartialTest.decides c.args.self.now.test.now) (lines_of c.args.self.now.lines) c.args.most c.loop-n.n _ None (omega arith) c.in_default.ensures c.loop-n.invariant

pub returns-in_default : goal.returns-in_default
returns-in_default g c =
    let f = g.T.PartialTest.decides c.args.self.now.test.now in
    let ws = lines_of c.args.self.now.lines in
    sym (size_end f ws c.args.most (c.loop-n.n + 1) (omega arith)) ∙ size_tried f ws c.args.most c.loop-n.n _ None (omega arith) c.in_default.ensures c.loop-n.invariant

pub returns : goal.returns
returns g c = sym (size_end (g.T.PartialTest.decides c.args.self.now.test.now) (lines_of c.args.self.now.lines) c.args.most c.loop-n.n (omega arith)) ∙ c.loop-n.invariant
