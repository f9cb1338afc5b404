use Rattle.std.proofs.Common.{ℕ, ◌<◌, ◌≢◌, [], get_or}
use Rattle.join.specs.FirstValues.{Names}
use Rattle.narrow.proofs.lines.wanted.Given as goal

abbrev pub invariant-loop-i : goal.invariant-loop-i
invariant-loop-i l = (i : ℕ) → i < l.i → i ≢ l.a → i ≢ l.b → Names (get_or l.lines i []) l.j → ⊥
