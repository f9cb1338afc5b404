use Rattle.std.proofs.Common.{◌≡◌, ◌≤◌, ◌++◌, length, drop, take}
use Rattle.question.specs.Question.{all_at}
use Rattle.question.specs.Layout.{value_in}
use Rattle.question.specs.Lent.{terms_of}
use Rattle.question.proofs.terms.Terms.row_under.Given as goal

abbrev pub invariant-loop-i : goal.invariant-loop-i
invariant-loop-i g l =
    (goal.iterator-loop-i g).can_next l.i-iterator ×
    (goal.iterator-loop-i g).is_finite l.i-iterator ×
    (l.i-iterator.count ≤ length (terms_of l.self)) ×
    (terms_of l.i-iterator.iter ≡ drop l.i-iterator.count (terms_of l.self)) ×
    (l.out ≡ all_at (value_in l.values) (take l.i-iterator.count (terms_of l.self)) ++ drop l.i-iterator.count l.initial.out)
