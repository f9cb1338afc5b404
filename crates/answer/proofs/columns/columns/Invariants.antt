use Rattle.std.proofs.Common.{◌≡◌, ◌≤◌, map, drop, length}
use Rattle.std.specs.List.{range_with_len}
use Rattle.question.specs.Lent.{terms_of}
use Rattle.answer.specs.Terms.{place_in}
use Rattle.answer.specs.Columns.{column_at}
use Rattle.answer.proofs.columns.columns.Given as goal

abbrev pub invariant-loop-place : goal.invariant-loop-place
invariant-loop-place l =
    (goal.iterator-loop-place).can_next l.place-iterator × (goal.iterator-loop-place).is_finite l.place-iterator
    × (l.place-iterator.count ≤ length (terms_of l.fn.terms))
    × (terms_of l.place-iterator.iter ≡ drop l.place-iterator.count (terms_of l.fn.terms))
    × (l.columns.items ≡ map (column_at (place_in l.codes.list.items) (terms_of l.fn.terms)) (range_with_len 0 l.place-iterator.count))
