use Rattle.std.proofs.Common.{ℕ, ◌<◌, ◌≢◌, [], get_or}
use Rattle.join.specs.Slots.{slot}
use Rattle.narrow.specs.Joining.{number}
use Rattle.narrow.proofs.lines.apart.Given as goal

abbrev pub invariant-loop-i : goal.invariant-loop-i
invariant-loop-i l = (i : ℕ) → i < l.i → i ≢ l.a → i ≢ l.b → (slot (get_or l.lines i []) 0 < l.setting.k)
    × (number l.setting.env (get_or l.lines i []) ≢ number l.setting.env (get_or l.lines l.a []))
    × (number l.setting.env (get_or l.lines i []) ≢ number l.setting.env (get_or l.lines l.b []))
