use Rattle.std.proofs.Common.{◌≡◌}
use Rattle.std.specs.Slice.Iter.{iter_rest}
use Rattle.std.specs.Iterator.Adapters.{zip_first, zip_second}
use Rattle.answer.specs.Taking.{one_number}
use Rattle.answer.proofs.copies.one_number.Given as goal

abbrev pub invariant-loop-term : goal.invariant-loop-term
invariant-loop-term l =
    (goal.iterator-loop-term).can_next l.term-iterator × (goal.iterator-loop-term).is_finite l.term-iterator
    × (one_number l.x l.number (iter_rest (zip_first l.term-iterator)) (iter_rest (zip_second l.term-iterator)) ≡ one_number l.x l.number l.fn.terms l.fn.cells)
