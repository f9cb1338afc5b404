use Rattle.std.proofs.Common.{◌≡◌, ◌*◌, ◌≤◌, ◌++◌, length, take, drop}
use Rattle.question.specs.Layout.{lines_out}
use Rattle.question.specs.Lent.{lines_of}
use Rattle.question.proofs.lines.Lines.write_each.Given as goal

abbrev pub invariant-loop-i : goal.invariant-loop-i
invariant-loop-i g l =
    (goal.iterator-loop-i g).can_next l.i-iterator ×
    (goal.iterator-loop-i g).is_finite l.i-iterator ×
    (l.i-iterator.count ≤ length (lines_of l.self)) ×
    (lines_of l.i-iterator.iter ≡ drop l.i-iterator.count (lines_of l.self)) ×
    (length (lines_out (take l.i-iterator.count (lines_of l.self))) ≡ 10 * l.i-iterator.count) ×
    (l.out ≡ lines_out (take l.i-iterator.count (lines_of l.self)) ++ drop (10 * l.i-iterator.count) l.initial.out)
