-- What answering from tables says and leaves, case by case. Assumes nothing: these are definitions.
use Rattle.std.specs.Prelude.{◌≡◌, ℕ, ◌+◌, ◌*◌, ◌<◌, ◌≤◌, ◌⊎◌, List, [], ◌∷◌, length, take, drop, Some, None, Option, Ok, Err, Result}
use Rattle.std.specs.Option.{option_or}
use Rattle.question.specs.declared.refusals.Refusal.{Refusal}
use Rattle.question.specs.declared.refusals.Refusal.TheVariants.{CutShort, NoQuestion, NoReport, NoRoomForQuestion, TooWide, NoRoomForRow, TableTooLarge, NoRoomForTables, NoMemory}
use Rattle.question.specs.Refusals.{number, place}
use Rattle.question.specs.Question.{Question, Row, Base, Answers}
use Rattle.question.specs.Layout.{question_in}
use Rattle.question.specs.Tables.{tables_in}
use Rattle.question.specs.Check.{cut_short, question_refusal}
use Rattle.join.specs.Order.{Before, cells}
use Rattle.join.specs.RowsOut as join
use Rattle.join.specs.RowsOut.{Asked, PutOut}
use Rattle.answer.specs.TableCheck.{tables_short, tables_refusal}

-- the number of an answer: 0, or that of the refusal
abbrev pub number_of : Result ℕ Refusal → ℕ
number_of (Ok n) = 0
number_of (Err e) = number e

-- the values told with it: how many rows, or the refusal's place
abbrev pub values_of : Result ℕ Refusal → List ℕ
values_of (Ok n) = n ∷ []
values_of (Err e) = place e ∷ []

-- the first refusal that applies before anything is answered: number 1 of the question, of the tables, number 2, number 7
unfoldable pub answer_refusal : (question tables : List ℕ) → Option Refusal
answer_refusal question tables = option_or (cut_short question) (option_or (tables_short tables) (option_or (question_refusal question) (tables_refusal tables)))

-- the i-th of rows of w numbers that lie one after another
abbrev pub row_in : (w i : ℕ) → List ℕ → Row
row_in w i out = take w (drop (i * w) out)

-- one row of w numbers comes before another: at the first place where they differ it is smaller
abbrev pub Lower : ℕ → Row → Row → Type 0
Lower w r s = Before w (cells r) (cells s)

-- the row is one of the first n
pub record Among (w n : ℕ) (out : List ℕ) (r : Row) : Type 0 where
  pub at : ℕ
  pub inside : at < n
  pub is : row_in w at out ≡ r

abbrev pub BehindAll : (w n : ℕ) → List ℕ → Row → Type 0
BehindAll w n out r = (i : ℕ) → i < n → Lower w (row_in w i out) r

-- n rows stand in out, each answered, each once and in order, none left out before the last; what lies behind them is as it was
pub record FirstRows (b : Base) (q : Question) (before out : List ℕ) (n : ℕ) : Type 0 where
  pub room : n * length q.row ≤ length out
  pub answered : (i : ℕ) → i < n → Answers b q (row_in (length q.row) i out)
  pub rising : (i j : ℕ) → i < j → j < n → Lower (length q.row) (row_in (length q.row) i out) (row_in (length q.row) j out)
  pub first : (r : Row) → Answers b q r → Among (length q.row) n out r ⊎ BehindAll (length q.row) n out r
  pub rest : drop (n * length q.row) out ≡ drop (n * length q.row) before

-- all rows stand
pub record AllRows (b : Base) (q : Question) (before out : List ℕ) (n : ℕ) : Type 0 where
  pub stand : FirstRows b q before out n
  pub all : (r : Row) → Answers b q r → Among (length q.row) n out r

-- there is a next row, and no room for it
pub record NoRoom (b : Base) (q : Question) (before out : List ℕ) (n : ℕ) : Type 0 where
  pub stand : FirstRows b q before out n
  pub next : Row
  pub answered : Answers b q next
  pub behind : BehindAll (length q.row) n out next
  pub short : length out < (n + 1) * length q.row

-- turned away before anything is answered; out is as it was
abbrev pub TurnedAway : (question tables before out : List ℕ) → Refusal → Type 0
TurnedAway question tables before out e = (answer_refusal question tables ≡ Some e) × (out ≡ before)

-- what a refusal means: 6 and 9 are told of what is not turned away before
abbrev pub RefusedFor : (question tables before out : List ℕ) → Refusal → Type 0
RefusedFor question tables before out (NoRoomForRow n) = (answer_refusal question tables ≡ None) × NoRoom (tables_in tables) (question_in question) before out n
RefusedFor question tables before out NoMemory = (answer_refusal question tables ≡ None) × (out ≡ before)
RefusedFor question tables before out (CutShort n) = TurnedAway question tables before out (CutShort n)
RefusedFor question tables before out (NoQuestion n) = TurnedAway question tables before out (NoQuestion n)
RefusedFor question tables before out (TableTooLarge n) = TurnedAway question tables before out (TableTooLarge n)
RefusedFor question tables before out (NoReport n) = ⊥
RefusedFor question tables before out (NoRoomForQuestion n) = ⊥
RefusedFor question tables before out TooWide = ⊥
RefusedFor question tables before out (NoRoomForTables n) = ⊥

-- what an answer means
unfoldable pub Meant : (question tables before out : List ℕ) → Result ℕ Refusal → Type 0
Meant question tables before out (Ok n) = (answer_refusal question tables ≡ None) × AllRows (tables_in tables) (question_in question) before out n
Meant question tables before out (Err e) = RefusedFor question tables before out e

-- what the join's rows are put out with: how many stand, or that there is no room for the next; without memory nothing is put out
abbrev pub RowsOut : Asked → (before out : List ℕ) → Result ℕ Refusal → Type 0
RowsOut q before out (Ok n) = PutOut q before out (Ok n)
RowsOut q before out (Err (NoRoomForRow n)) = join.Standing q before out n × join.NoRoom q out n
RowsOut q before out (Err NoMemory) = out ≡ before
RowsOut q before out (Err (CutShort n)) = ⊥
RowsOut q before out (Err (NoQuestion n)) = ⊥
RowsOut q before out (Err (NoReport n)) = ⊥
RowsOut q before out (Err (NoRoomForQuestion n)) = ⊥
RowsOut q before out (Err TooWide) = ⊥
RowsOut q before out (Err (TableTooLarge n)) = ⊥
RowsOut q before out (Err (NoRoomForTables n)) = ⊥
