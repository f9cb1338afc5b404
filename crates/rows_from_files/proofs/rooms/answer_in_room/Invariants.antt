use Rattle.std.proofs.Common.{◌-◌, ◌≤◌}
use Rattle.rows_from_files.proofs.rooms.answer_in_room.Given as goal

abbrev pub invariant-loop-answered : goal.invariant-loop-answered
invariant-loop-answered l = (65536 ≤ l.size) × (l.size ≤ 16777216)

abbrev pub decreases-loop-answered : goal.decreases-loop-answered
decreases-loop-answered l = 16777216 - l.size
