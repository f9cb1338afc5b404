use Rattle.std.proofs.Common.{◌≡◌, ◌+◌, ◌*◌, ◌≤◌, ◌∷◌, ◌++◌, length, take, drop, replicate}
use Rattle.question.specs.Layout.{terms_out}
use Rattle.question.specs.Lent.{terms_of}
use Rattle.containment.specs.Reading.{all_put}
use Rattle.reports.proofs.put.line_put.Given as goal

abbrev pub invariant-loop-i : goal.invariant-loop-i
invariant-loop-i g l =
    (goal.iterator-loop-i g).can_next l.i-iterator ×
    (goal.iterator-loop-i g).is_finite l.i-iterator ×
    (l.i-iterator.count ≤ length (terms_of l.fn.terms)) ×
    (terms_of l.i-iterator.iter ≡ drop l.i-iterator.count (terms_of l.fn.terms)) ×
    (l.line ≡ (l.table ∷ length (terms_of l.fn.terms) ∷ terms_out (all_put (g.P.Put.how l.by) (take l.i-iterator.count (terms_of l.fn.terms)))) ++ drop (2 + 2 * l.i-iterator.count) (replicate 10 0))
