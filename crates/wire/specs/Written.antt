-- How questions and requests are written in bytes, and which can be. Assumes nothing: these are definitions.
use Rattle.std.specs.Prelude.{ℕ, ◌/◌, ◌%◌, ◌<◌, ◌≤◌, List, [], ◌∷◌, ◌++◌, length}
use Rattle.question.specs.declared.terms.Term.{Term}
use Rattle.question.specs.declared.terms.Term.TheVariants.{Number, Variable}
use Rattle.question.specs.Question.{Line, Question, In}

-- four bytes, the low one first
unfoldable pub number_bytes : ℕ → List ℕ
number_bytes n = n % 256 ∷ n / 256 % 256 ∷ n / 65536 % 256 ∷ n / 16777216 % 256 ∷ []

-- a term: 0 and a number, or 1 and a variable
unfoldable pub term_bytes : Term → List ℕ
term_bytes (Number n) = 0 ∷ number_bytes n
term_bytes (Variable x) = 1 ∷ number_bytes x

unfoldable pub terms_bytes : List Term → List ℕ
terms_bytes [] = []
terms_bytes (t ∷ ts) = term_bytes t ++ terms_bytes ts

-- a row of terms: their count first
unfoldable pub row_bytes : List Term → List ℕ
row_bytes ts = length ts ∷ terms_bytes ts

unfoldable pub line_bytes : Line → List ℕ
line_bytes l = number_bytes l.table ++ row_bytes l.cells

unfoldable pub lines_bytes : List Line → List ℕ
lines_bytes [] = []
lines_bytes (l ∷ ls) = line_bytes l ++ lines_bytes ls

-- a question: its row, the count of its lines, and the lines
unfoldable pub question_bytes : Question → List ℕ
question_bytes q = row_bytes q.row ++ (length q.lines ∷ lines_bytes q.lines)

unfoldable pub questions_bytes : List Question → List ℕ
questions_bytes [] = []
questions_bytes (q ∷ qs) = question_bytes q ++ questions_bytes qs

-- a request: the count of its reports, the reports, and the question
unfoldable pub request_bytes : List Question → Question → List ℕ
request_bytes rs q = length rs ∷ (questions_bytes rs ++ question_bytes q)

-- a number or a variable that four bytes hold
abbrev pub SmallTerm : Term → Type 0
SmallTerm (Number n) = n < 4294967296
SmallTerm (Variable x) = x < 4294967296

-- at most four terms
pub record SmallRow (ts : List Term) : Type 0 where
  pub few : length ts ≤ 4
  pub each : (t : Term) → In t ts → SmallTerm t

pub record SmallLine (l : Line) : Type 0 where
  pub table : l.table < 4294967296
  pub cells : SmallRow l.cells

-- a question that the lent numbers have room for: at most four lines of at most four terms
pub record Small (q : Question) : Type 0 where
  pub row : SmallRow q.row
  pub few : length q.lines ≤ 4
  pub each : (l : Line) → In l q.lines → SmallLine l
