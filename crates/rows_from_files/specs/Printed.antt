-- What the program prints for a question and tables: the rows answered, or a refusal. Assumes nothing: these are definitions.
use Rattle.std.specs.Prelude.{◌≡◌, ℕ, ◌+◌, ◌*◌, ◌<◌, ◌⊎◌, List, [], ◌∷◌, ◌++◌, length, Some, None, Option, Ok, Err, Result}
use Rattle.question.specs.declared.refusals.Refusal.{Refusal}
use Rattle.question.specs.declared.refusals.Refusal.TheVariants.{CutShort, NoQuestion, NoReport, NoRoomForQuestion, TooWide, NoRoomForRow, TableTooLarge, NoRoomForTables, NoMemory}
use Rattle.question.specs.Question.{Question, Row, Base, In, Answers}
use Rattle.question.specs.Layout.{question_in}
use Rattle.question.specs.Refusals.{refusal_line}
use Rattle.question.specs.Tables.{rows_in, tables_in}
use Rattle.wire.specs.Tables.{table_text}
use Rattle.answer.specs.Answered.{Lower, answer_refusal}
use Rattle.rows_from_files.specs.Rooms.{largest}

-- a refusal on a line of its own
abbrev pub refusal_text : Refusal → List ℕ
refusal_text e = refusal_line e ++ (10 ∷ [])

-- how many rows stand in the room
abbrev pub standing : Result ℕ Refusal → ℕ
standing (Ok n) = n
standing (Err (CutShort n)) = 0
standing (Err (NoQuestion n)) = 0
standing (Err (NoReport n)) = 0
standing (Err (NoRoomForQuestion n)) = 0
standing (Err TooWide) = 0
standing (Err (NoRoomForRow n)) = n
standing (Err (TableTooLarge n)) = 0
standing (Err (NoRoomForTables n)) = 0
standing (Err NoMemory) = 0

abbrev pub end_text : Result ℕ Refusal → List ℕ
end_text (Ok n) = []
end_text (Err e) = refusal_text e

-- the rows that stand, of so many columns, and behind them the refusal if there is one
abbrev pub answer_text : (columns : ℕ) → List ℕ → Result ℕ Refusal → List ℕ
answer_text columns out a = table_text (rows_in (standing a) columns out) ++ end_text a

-- each row comes before all behind it
pub data Rising (w : ℕ) : List Row → Type 0 where
  none_left : Rising w []
  and_row : {r : Row} {rs : List Row} → ((s : Row) → In s rs → Lower w r s) → Rising w rs → Rising w (r ∷ rs)

-- rows that the question answers, each once and in order
pub record RowsInOrder (b : Base) (q : Question) (rows : List Row) : Type 0 where
  pub answered : (r : Row) → In r rows → Answers b q r
  pub rising : Rising (length q.row) rows

-- all of them are printed
pub record AllPrinted (b : Base) (q : Question) (text : List ℕ) : Type 0 where
  pub rows : List Row
  pub right : RowsInOrder b q rows
  pub all : (r : Row) → Answers b q r → In r rows
  pub is : text ≡ table_text rows

-- the first of them are printed, as many as the largest room holds; there is one more
pub record FirstPrinted (b : Base) (q : Question) (text : List ℕ) : Type 0 where
  pub rows : List Row
  pub right : RowsInOrder b q rows
  pub first : (r : Row) → Answers b q r → In r rows ⊎ ((s : Row) → In s rows → Lower (length q.row) s r)
  pub next : Row
  pub answered : Answers b q next
  pub behind : (s : Row) → In s rows → Lower (length q.row) s next
  pub short : largest < (length rows + 1) * length q.row
  pub is : text ≡ table_text rows ++ refusal_text (NoRoomForRow (length rows))

-- what is printed for a question and tables in lent numbers
pub data Printed (question tables text : List ℕ) : Type 0 where
  all_rows : answer_refusal question tables ≡ None → AllPrinted (tables_in tables) (question_in question) text → Printed question tables text
  first_rows : answer_refusal question tables ≡ None → FirstPrinted (tables_in tables) (question_in question) text → Printed question tables text
  turned_away : (e : Refusal) → answer_refusal question tables ≡ Some e → text ≡ refusal_text e → Printed question tables text
  no_memory : answer_refusal question tables ≡ None → text ≡ refusal_text NoMemory → Printed question tables text

-- what is printed for so many bytes that hold the question, or are cut short
abbrev pub PrintedFor : (size : ℕ) → Option (List ℕ) → (tables text : List ℕ) → Type 0
PrintedFor size (Some question) tables text = Printed question tables text
PrintedFor size None tables text = text ≡ refusal_text (CutShort size)
