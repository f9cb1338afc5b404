use Rattle.std.proofs.Common.{◌≡◌, ℕ, ◌<◌, length, None, slice_index_or}
use Rattle.std.specs.Option.{unwrap_or}
use Rattle.question.specs.declared.terms.Term.{Term}
use Rattle.question.specs.Lent.{terms_of}
use Rattle.reports.specs.Expand.{assign}
use Rattle.reports.proofs.expand.said_of_each.Given as goal

abbrev pub invariant-loop-term : goal.invariant-loop-term
invariant-loop-term l =
    goal.iterator-loop-term.can_next l.term-iterator ×
    goal.iterator-loop-term.is_finite l.term-iterator ×
    (length l.said ≡ 16) ×
    ((x : ℕ) → (d : Term) → x < 16 → unwrap_or (slice_index_or l.said x None) (assign (terms_of l.term-iterator.a) (terms_of l.term-iterator.b) d x) ≡ assign (terms_of l.fn.row) (terms_of l.fn.cells) d x)
