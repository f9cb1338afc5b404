use Rattle.std.proofs.Common.{◌-◌, ◌^◌}
use Rattle.join.proofs.Steps.{From}
use Rattle.join.proofs.asking.Join.+first.Given as goal

abbrev pub decreases-first : goal.decreases-first
decreases-first l = l.self.now.setting.now.n - l.k

abbrev pub invariant-loop-y : goal.invariant-loop-y
invariant-loop-y l = From l.self.rows.now l.self.lines.now l.self.setting.now.shown l.k l.env l.after l.x

abbrev pub decreases-loop-y : goal.decreases-loop-y
decreases-loop-y l = 2 ^ 64 - l.x
