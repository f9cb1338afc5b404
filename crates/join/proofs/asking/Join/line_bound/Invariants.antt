use Rattle.std.proofs.Common.{◌≡◌, ℕ, ◌<◌, get_or}
use Rattle.join.specs.Slots.{slot}
use Rattle.join.proofs.asking.Join.line_bound.Given as goal

abbrev pub invariant-loop-c : goal.invariant-loop-c
invariant-loop-c l = (i : ℕ) → i < l.c → (slot l.line i < l.k) × (get_or l.row i 0 ≡ get_or l.key i 0)
