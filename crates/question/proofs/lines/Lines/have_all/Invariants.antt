use Rattle.std.proofs.Common.{◌≡◌}
use Rattle.question.specs.Sound.{vars, line_vars, all_in}
use Rattle.question.specs.Lent.{terms_of, lines_of}
use Rattle.question.proofs.lines.Lines.have_all.Given as goal

abbrev pub invariant-loop-term : goal.invariant-loop-term
invariant-loop-term g l =
    (goal.iterator-loop-term g).can_next l.term-iterator ×
    (goal.iterator-loop-term g).is_finite l.term-iterator ×
    (all_in (vars (terms_of l.term-iterator)) (line_vars (lines_of l.self)) ≡ all_in (vars (terms_of l.initial.term-iterator)) (line_vars (lines_of l.self)))
