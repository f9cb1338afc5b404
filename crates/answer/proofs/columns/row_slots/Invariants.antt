use Rattle.std.proofs.Common.{◌≡◌, ◌≤◌, ◌+◌, ◌++◌, length}
use Rattle.question.specs.Lent.{terms_of}
use Rattle.answer.specs.Terms.{place_in}
use Rattle.answer.specs.Plan.{places}
use Rattle.answer.proofs.columns.row_slots.Given as goal

abbrev pub invariant-loop-term : goal.invariant-loop-term
invariant-loop-term l =
    (goal.iterator-loop-term).can_next l.term-iterator × (goal.iterator-loop-term).is_finite l.term-iterator
    × (length l.slots.items + length (terms_of l.term-iterator) ≤ 4)
    × (l.slots.items ++ places (place_in l.codes.list.items) (terms_of l.term-iterator) ≡ places (place_in l.codes.list.items) (terms_of l.initial.term-iterator))
