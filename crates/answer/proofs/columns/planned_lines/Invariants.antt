use Rattle.std.proofs.Common.{◌≡◌, ℕ, ◌<◌, ◌≤◌, drop, length, get_or}
use Rattle.question.specs.Lent.{lines_of}
use Rattle.answer.specs.declared.columns.PlannedLine.{PlannedLine}
use Rattle.answer.specs.Terms.{place_in}
use Rattle.answer.specs.Plan.{no_line}
use Rattle.answer.specs.Columns.{IsPlannedLine}
use Rattle.answer.proofs.columns.planned_lines.Given as goal

abbrev pub invariant-loop-i : goal.invariant-loop-i
invariant-loop-i l =
    (goal.iterator-loop-i).can_next l.i-iterator × (goal.iterator-loop-i).is_finite l.i-iterator
    × (l.i-iterator.count ≤ length (lines_of l.fn.lines))
    × (lines_of l.i-iterator.iter ≡ drop l.i-iterator.count (lines_of l.fn.lines))
    × (length l.slots.items ≡ l.i-iterator.count)
    × ((j : ℕ) (d : PlannedLine) → j < l.i-iterator.count → IsPlannedLine (place_in l.codes.list.items) (get_or (lines_of l.fn.lines) j no_line).cells j (get_or l.slots.items j d))
