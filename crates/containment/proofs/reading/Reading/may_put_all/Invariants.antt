use Rattle.std.proofs.Common.{◌≡◌, drop, length}
use Rattle.question.specs.Lent.{terms_of}
use Rattle.containment.proofs.reading.Reading.may_put_all.Given as goal

abbrev pub invariant-loop-term : goal.invariant-loop-term
invariant-loop-term g l =
    (goal.iterator-loop-term g).can_next l.term-iterator ×
    (goal.iterator-loop-term g).is_finite l.term-iterator ×
    (terms_of l.term-iterator.a ≡ drop (length l.yielded) (terms_of l.from)) ×
    (terms_of l.term-iterator.b ≡ drop (length l.yielded) (terms_of l.to))
