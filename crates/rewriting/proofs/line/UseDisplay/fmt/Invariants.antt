use Rattle.std.proofs.Common.{◌≡◌, ℕ, List, ◌++◌}
use Rattle.std.specs.Fmt.{HasWritten, IsPlainFormatter}
use Rattle.question.specs.Lent.{terms_of, line_of}
use Rattle.rewriting.specs.Texts.{terms_text}
use Rattle.rewriting.proofs.line.UseDisplay.fmt.Given as goal

abbrev pub invariant-loop-term : goal.invariant-loop-term
invariant-loop-term g l =
    (goal.iterator-loop-term g).can_next l.term-iterator ×
    (goal.iterator-loop-term g).is_finite l.term-iterator ×
    (IsPlainFormatter l.initial.f → (done : List ℕ) × HasWritten g.W.Write.write_str_gives l.initial.f done l.f
    × (done ++ terms_text (terms_of l.term-iterator) ≡ terms_text (line_of l.self.0).cells))
