use Rattle.std.proofs.Common.{◌≡◌, length}
use Rattle.question.specs.Lent.{terms_of}
use Rattle.containment.specs.Search.{match_terms}
use Rattle.containment.specs.Coding.{part_of}
use Rattle.containment.proofs.reading.Reading.put_terms.Given as goal

abbrev pub invariant-loop-term : goal.invariant-loop-term
invariant-loop-term g l =
    (goal.iterator-loop-term g).can_next l.term-iterator ×
    (goal.iterator-loop-term g).is_finite l.term-iterator ×
    (length (terms_of l.term-iterator) ≡ length (terms_of l.others)) ×
    (match_terms (part_of l.reading.codes) (terms_of l.term-iterator) (terms_of l.others) ≡ match_terms (part_of l.fn.self.codes) (terms_of l.from) (terms_of l.to))
