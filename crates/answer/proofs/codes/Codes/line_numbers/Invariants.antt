use Rattle.std.proofs.Common.{◌≡◌, take, [], ◌∷◌}
use Rattle.answer.proofs.codes.Codes.line_numbers.Given as goal

abbrev pub invariant-loop-number : goal.invariant-loop-number
invariant-loop-number l = l.list.items ≡ take l.number (0 ∷ 1 ∷ 2 ∷ 3 ∷ [])
