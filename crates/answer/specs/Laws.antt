-- What the join answers by a plan over copied tables is what the question answers: a statement that a function's contract names. Assumes nothing.
use Rattle.std.specs.Prelude.{◌≡◌, ℕ, ◌<◌, List, [], length, slice_index_or}
use Rattle.join.specs.Order.{cells}
use Rattle.join.specs.RowsOut.{Asked, Answered}
use Rattle.question.specs.Question.{Question, Row, Base, Answers}
use Rattle.answer.specs.Plan.{Plan, Planned, no_line}
use Rattle.answer.specs.Copies.{LineCopied}

-- what the join is asked by a plan over some rows
abbrev pub asked_by : Plan → List (List ℕ) → Asked
asked_by p rows = record { rows = rows; lines = p.lines; k = p.k; env = p.env; row = p.row }

-- the tables are copied for each line
abbrev pub Copied : Base → Question → Plan → List (List ℕ) → Type 0
Copied b q p rows = (i : ℕ) → i < length q.lines → LineCopied b (slice_index_or q.lines i no_line) (slice_index_or p.cols i []) i rows

-- a row as wide as the question's is answered by the join exactly if it is by the question
abbrev pub PlanAnswers : Type 0
PlanAnswers =
    (b : Base) (q : Question) (p : Plan) (rows : List (List ℕ)) → Planned q p → Copied b q p rows →
    (r : Row) → length r ≡ length q.row → (Answers b q r → Answered (asked_by p rows) (cells r)) × (Answered (asked_by p rows) (cells r) → Answers b q r)
