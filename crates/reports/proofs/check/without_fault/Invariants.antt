use Rattle.std.proofs.Common.{◌≡◌, ◌-◌, true, length, take}
use Rattle.std.specs.List.{list_all}
use Rattle.question.specs.Lent.{question_of}
use Rattle.reports.specs.Check.{is_question, parts_fault}
use Rattle.reports.proofs.check.without_fault.Given as goal

abbrev pub invariant-loop-i : goal.invariant-loop-i
invariant-loop-i l =
    (list_all is_question (take l.i l.parts) ≡ true)
    × (parts_fault (question_of l.question).lines l.parts (length l.parts - l.i) l.i ≡ parts_fault (question_of l.question).lines l.parts (length l.parts) 0)
