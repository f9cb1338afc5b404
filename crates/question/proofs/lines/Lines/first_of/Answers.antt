use Rattle.question.proofs.Chunks.{lines-cut}
use Rattle.question.proofs.lines.Lines.first_of.Goals as goal

pub invariant_of-result : goal.invariant_of-result
invariant_of-result g c =
    let cut = lines-cut g.row.LIMIT c.args.n c.args.numbers.now c.as_chunks.result.0.now c.requires.lent.0 c.requires.lent.1 c.as_chunks.ensures.front in
    record { fit = cut.0; limit = c.requires.limit }

pub returns : goal.returns
returns g c = (lines-cut g.row.LIMIT c.args.n c.args.numbers.now c.as_chunks.result.0.now c.requires.lent.0 c.requires.lent.1 c.as_chunks.ensures.front).1
