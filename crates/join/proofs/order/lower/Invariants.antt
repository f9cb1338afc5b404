use Rattle.std.proofs.Common.{ℕ, ◌-◌, ◌<◌, ◌≤◌, length}
use Rattle.join.specs.Order.{Before, cells, row_at}
use Rattle.join.proofs.order.lower.Given as goal

abbrev pub invariant-loop-lo : goal.invariant-loop-lo
invariant-loop-lo l = (l.lo ≤ l.hi) × (l.hi ≤ length l.rows)
    × ((j : ℕ) → j < l.lo → Before 5 (row_at l.rows j) (cells l.key))
    × (l.hi < length l.rows → Before 5 (row_at l.rows l.hi) (cells l.key) → ⊥)

abbrev pub decreases-loop-lo : goal.decreases-loop-lo
decreases-loop-lo l = l.hi - l.lo
