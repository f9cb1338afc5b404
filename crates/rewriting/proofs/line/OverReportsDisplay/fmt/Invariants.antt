use Rattle.std.proofs.Common.{◌≡◌, ℕ, List, ◌++◌}
use Rattle.std.specs.Fmt.{HasWritten, IsPlainFormatter}
use Rattle.question.specs.Lent.{lines_of}
use Rattle.rewriting.specs.Texts.{more_uses_text}
use Rattle.rewriting.proofs.line.OverReportsDisplay.fmt.Given as goal

abbrev pub invariant-loop-more : goal.invariant-loop-more
invariant-loop-more g l =
    (goal.iterator-loop-more g).can_next l.more-iterator ×
    (goal.iterator-loop-more g).is_finite l.more-iterator ×
    (IsPlainFormatter l.initial.f → (done : List ℕ) × HasWritten g.W.Write.write_str_gives l.initial.f done l.f
    × (done ++ more_uses_text (lines_of l.more-iterator) ≡ more_uses_text (lines_of l.initial.more-iterator)))
