use Rattle.std.proofs.Common.{ℕ, ◌<◌, [], get_or}
use Rattle.join.specs.Order.{cells}
use Rattle.join.specs.Slots.{SlotsBelow, Stands}
use Rattle.join.proofs.asking.Join.ready.Given as goal

abbrev pub invariant-loop-line : goal.invariant-loop-line
invariant-loop-line l = (i : ℕ) → i < l.line-index → SlotsBelow l.k (get_or l.self.lines.now i []) → Stands l.self.rows.now (get_or l.self.lines.now i []) (cells l.env)
