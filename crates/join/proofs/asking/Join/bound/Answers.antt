use Rattle.std.proofs.Common.{arith}
use Rattle.join.proofs.Bounds.{line_of}
use Rattle.join.proofs.asking.Join.bound.Goals as goal
use Rattle.join.proofs.asking.Join.bound.Goals.{then-names+in_ok-least, else-names}

pub returns-in_err-least : goal.returns-in_err-least
returns-in_err-least c = rw c.from_residual.ensures (λ v agree up f. c.in_err-least.ensures v agree up (line_of c.args.self.now.rows.now c.args.self.now.lines.now v f c.loop-line.line-index (omega arith)))

pub loop-line-preserved : goal.loop-line-preserved
loop-line-preserved c = elim c.if-names.branch [
  | then-names+in_ok-least w ↦ (
    omega (arith, w.high-is),
    λ v agree up f. omega (arith, w.high-is, c.loop-line.invariant.1 v agree up f, w.in_ok-least.ensures v agree up (line_of c.args.self.now.rows.now c.args.self.now.lines.now v f c.loop-line.line-index (omega arith))),
  )
  | else-names w ↦ rw w.high-is c.loop-line.invariant
]
