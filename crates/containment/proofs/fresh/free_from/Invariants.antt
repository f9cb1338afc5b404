use Rattle.std.proofs.Common.{◌≡◌, ◌-◌, ◌++◌}
use Rattle.question.specs.Lent.{question_of}
use Rattle.containment.specs.OwnTables.{question_numbers, free_from}
use Rattle.containment.proofs.fresh.free_from.Given as goal

abbrev pub invariant-loop-n : goal.invariant-loop-n
invariant-loop-n l =
    free_from (question_numbers (question_of l.first) ++ question_numbers (question_of l.second)) l.n
    ≡ free_from (question_numbers (question_of l.first) ++ question_numbers (question_of l.second)) l.from

abbrev pub decreases-loop-n : goal.decreases-loop-n
decreases-loop-n l = free_from (question_numbers (question_of l.first) ++ question_numbers (question_of l.second)) l.from - l.n
