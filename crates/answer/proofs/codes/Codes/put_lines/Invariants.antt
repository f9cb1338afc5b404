use Rattle.std.proofs.Common.{◌≡◌, ◌+◌, ◌≤◌, length}
use Rattle.question.specs.Lent.{lines_of}
use Rattle.answer.specs.Terms.{all_put_in, line_codes}
use Rattle.answer.proofs.codes.Codes.put_lines.Given as goal

abbrev pub invariant-loop-line : goal.invariant-loop-line
invariant-loop-line l =
    (goal.iterator-loop-line).can_next l.line-iterator × (goal.iterator-loop-line).is_finite l.line-iterator
    × (length l.self.list.items + length (line_codes l.kind (lines_of l.line-iterator)) ≤ 24)
    × (all_put_in l.self.list.items (line_codes l.kind (lines_of l.line-iterator)) ≡ all_put_in l.initial.self.list.items (line_codes l.kind (lines_of l.initial.line-iterator)))
