use Rattle.std.proofs.Common.{◌≡◌, ◌+◌, ◌≤◌, length}
use Rattle.question.specs.Lent.{terms_of}
use Rattle.answer.specs.Terms.{all_put_in, codes_of}
use Rattle.answer.proofs.codes.Codes.put_terms.Given as goal

abbrev pub invariant-loop-term : goal.invariant-loop-term
invariant-loop-term l =
    (goal.iterator-loop-term).can_next l.term-iterator × (goal.iterator-loop-term).is_finite l.term-iterator
    × (length l.self.list.items + length (codes_of l.kind (terms_of l.term-iterator)) ≤ 24)
    × (all_put_in l.self.list.items (codes_of l.kind (terms_of l.term-iterator)) ≡ all_put_in l.initial.self.list.items (codes_of l.kind (terms_of l.initial.term-iterator)))
