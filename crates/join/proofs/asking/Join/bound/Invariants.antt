use Rattle.std.proofs.Common.{◌≤◌, get_or}
use Rattle.join.specs.Slots.{Agree, AllStand}
use Rattle.join.specs.Order.{Value}
use Rattle.join.proofs.asking.Join.bound.Given as goal

abbrev pub invariant-loop-line : goal.invariant-loop-line
invariant-loop-line l = (get_or l.env l.k 0 ≤ l.high) × ((v : Value) → Agree l.k l.env v → get_or l.env l.k 0 ≤ v l.k → AllStand l.self.rows.now l.self.lines.now v → l.high ≤ v l.k)
