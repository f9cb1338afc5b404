use Rattle.std.proofs.Common.{◌≡◌, length}
use Rattle.answer.specs.Taking.{takes}
use Rattle.answer.proofs.copies.takes.Given as goal

abbrev pub invariant-loop-cell : goal.invariant-loop-cell
invariant-loop-cell l = takes l.terms l.cells ≡ takes l.fn.terms l.row

abbrev pub decreases-loop-cell : goal.decreases-loop-cell
decreases-loop-cell l = length l.cells
