use Rattle.std.proofs.Common.{◌≡◌, ◌++◌, map, vec_items}
use Rattle.std.specs.Slice.Iter.{iter_rest}
use Rattle.answer.specs.declared.columns.PlannedLine.{PlannedLine}
use Rattle.answer.proofs.plan.SlotPlan.slots.Given as goal

abbrev pub invariant-loop-line : goal.invariant-loop-line
invariant-loop-line l =
    (goal.iterator-loop-line).can_next l.line-iterator × (goal.iterator-loop-line).is_finite l.line-iterator
    × (vec_items l.lines ++ map (λ (k : PlannedLine). k.slots) (iter_rest l.line-iterator) ≡ map (λ (k : PlannedLine). k.slots) l.self.lines.items)
