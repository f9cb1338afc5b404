use Rattle.std.proofs.Common.{◌≡◌, ℕ, ◌+◌, ◌<◌, ◌≤◌, get_or}
use Rattle.join.specs.Slots.{slot}
use Rattle.join.proofs.output.put_row.Given as goal

abbrev pub invariant-loop-c : goal.invariant-loop-c
invariant-loop-c l = ((d : ℕ) → d < l.c → get_or l.out (l.at + d) 0 ≡ get_or l.env (slot l.row d) 0)
    × ((p : ℕ) → p < l.at → get_or l.out p 0 ≡ get_or l.initial.out p 0)
    × ((p : ℕ) → l.at + l.c ≤ p → get_or l.out p 0 ≡ get_or l.initial.out p 0)
