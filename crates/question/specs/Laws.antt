-- Laws of questions, each a statement that a function's contract names. Assumes nothing.
use Rattle.std.specs.Prelude.{◌≡◌, ℕ, ◌≤◌, List, ◌++◌, map, length, None}
use Rattle.question.specs.declared.terms.Term.TheVariants.{Number}
use Rattle.question.specs.Question.{Line, Question, Row, Base, Answers, In}
use Rattle.question.specs.Sound.{Allowed}
use Rattle.question.specs.Layout.{question_in, question_out}
use Rattle.question.specs.Reports.{reports_in, reports_out}
use Rattle.question.specs.Check.{question_refusal}

-- more rows in the tables, more rows in the answer
abbrev pub MoreRows : Type 0
MoreRows = (q : Question) (b c : Base) (r : Row) → ((t : ℕ) (s : Row) → In s (b t) → In s (c t)) → Answers b q r → Answers c q r

-- the question names the number: in its row or in a line
pub data Names (q : Question) (n : ℕ) : Type 0 where
  in_row : In (Number n) q.row → Names q n
  in_line : {l : Line} → In l q.lines → In (Number n) l.cells → Names q n

-- numbers that a question does not name are only told apart or not: a change of numbers that keeps the named ones takes answers to answers
abbrev pub AnyNumbers : Type 0
AnyNumbers =
    (q : Question) (b : Base) (f : ℕ → ℕ) (r : Row) → ((n : ℕ) → Names q n → f n ≡ n) →
    Answers b q r → Answers (λ t. map (map f) (b t)) q (map f r)

-- there is room for the question in fifty numbers
pub record HasRoom (q : Question) : Type 0 where
  pub row : length q.row ≤ 4
  pub lines : length q.lines ≤ 4
  pub cells : (l : Line) → In l q.lines → length l.cells ≤ 4

-- what is written reads back as the same question, whatever lies behind it
abbrev pub ReadsBack : Type 0
ReadsBack = (q : Question) → HasRoom q → (more : List ℕ) → question_in (question_out q ++ more) ≡ q

-- the same of reports
abbrev pub ReportsReadBack : Type 0
ReportsReadBack = (rs : List Question) → ((r : Question) → In r rs → HasRoom r) → (more : List ℕ) → reports_in (reports_out rs ++ more) ≡ rs

-- what is written is accepted if it may be asked
abbrev pub WrittenAccepted : Type 0
WrittenAccepted = (q : Question) → Allowed q → (more : List ℕ) → question_refusal (question_out q ++ more) ≡ None
