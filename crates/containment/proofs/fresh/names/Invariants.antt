use Rattle.std.proofs.Common.{◌≡◌, ℕ, ◌<◌, ◌++◌, length, get_or}
use Rattle.question.specs.Lent.{question_of}
use Rattle.containment.specs.OwnTables.{question_numbers, free_from, naming}
use Rattle.containment.proofs.fresh.names.Given as goal

abbrev pub invariant-loop-x : goal.invariant-loop-x
invariant-loop-x l =
    (naming (question_of l.first) (question_of l.second) l.x ≡ free_from (question_numbers (question_of l.first) ++ question_numbers (question_of l.second)) l.next)
    × ((y : ℕ) → y < l.x → get_or l.values y 0 ≡ naming (question_of l.first) (question_of l.second) y)
    × (length l.values ≡ 16)
