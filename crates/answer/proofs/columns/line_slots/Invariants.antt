use Rattle.std.proofs.Common.{◌≡◌, ℕ, ◌+◌, ◌<◌, ◌≤◌, length, map, get_or}
use Rattle.answer.proofs.columns.line_slots.Given as goal

abbrev pub invariant-loop-c : goal.invariant-loop-c
invariant-loop-c l =
    (length l.slots ≡ 5) × (get_or l.slots 0 0 ≡ l.id)
    × ((d : ℕ) → d < l.c → get_or l.slots (d + 1) 0 ≡ get_or (map (λ column. column.slot) l.columns) d 0)
    × ((d : ℕ) → l.c ≤ d → d < 4 → get_or l.slots (d + 1) 0 ≡ 0)
