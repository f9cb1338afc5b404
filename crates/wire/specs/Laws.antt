-- Laws of the byte form, each a statement that a function's contract names. Assumes nothing.
use Rattle.std.specs.Prelude.{◌≡◌, ℕ, ◌^◌, ◌<◌, ◌≤◌, List, ◌++◌, length, take, Some, None, Ok}
use Rattle.question.specs.Question.{Question, In}
use Rattle.question.specs.Layout.{question_in, question_out}
use Rattle.wire.specs.Bytes.{Reads, read_question, read_request, request_of, question_of}
use Rattle.question.specs.Reports.{reports_in, reports_out}
use Rattle.wire.specs.Tables.{table_of, table_text, rows_out, rows_of}
use Rattle.wire.specs.Written.{Small, question_bytes, request_bytes}

-- what is written is bytes
abbrev pub AllBytes : List ℕ → Type 0
AllBytes bytes = (b : ℕ) → In b bytes → b < 256

abbrev pub WrittenInBytes : Type 0
WrittenInBytes =
    (rs : List Question) (q : Question) → length rs ≤ 8 → ((r : Question) → In r rs → Small r) → Small q → AllBytes (request_bytes rs q)

-- what is written is read back, whatever stands behind it: the numbers of each report and of the question, and what is behind
abbrev pub ReadsBack : Type 0
ReadsBack =
    (rs : List Question) (q : Question) (more : List ℕ) → length rs ≤ 8 → ((r : Question) → In r rs → Small r) → Small q →
    read_request (request_bytes rs q ++ more) ≡ Some (record { reports = reports_out rs; question = question_out q }, more)

abbrev pub QuestionReadsBack : Type 0
QuestionReadsBack = (q : Question) (more : List ℕ) → Small q → read_question (question_bytes q ++ more) ≡ Some (question_out q, more)

-- and those numbers are the same reports and the same question
abbrev pub SameRequest : Type 0
SameRequest =
    (rs : List Question) (q : Question) → ((r : Question) → In r rs → Small r) → Small q →
    (reports_in (reports_out rs) ≡ rs) × (question_in (question_out q) ≡ q)

-- what is read of any bytes stands at their front; with other bytes behind the same is read; and cut short anywhere it is none
pub record OwnBytes {A : Type 0} (read : Reads A) (bytes rest : List ℕ) (a : A) : Type 0 where
  pub used : List ℕ
  pub front : bytes ≡ used ++ rest
  pub alone : (more : List ℕ) → read (used ++ more) ≡ Some (a, more)
  pub short : (k : ℕ) → k < length used → read (take k used) ≡ None

abbrev pub ReadsOwn : {A : Type 0} → Reads A → Type 0
ReadsOwn {A} read = (bytes rest : List ℕ) (a : A) → read bytes ≡ Some (a, rest) → OwnBytes read bytes rest a

-- that holds of every request and of every question, also of those that no writer wrote
abbrev pub AnyCutShort : Type 0
AnyCutShort = ReadsOwn read_request × ReadsOwn read_question

-- so every proper front of a written request or question is refused
abbrev pub IsCutShort : Type 0
IsCutShort =
    (rs : List Question) (q : Question) (k : ℕ) → length rs ≤ 8 → ((r : Question) → In r rs → Small r) → Small q →
    k < length (request_bytes rs q) → request_of (take k (request_bytes rs q)) ≡ None

abbrev pub QuestionCutShort : Type 0
QuestionCutShort = (q : Question) (k : ℕ) → Small q → k < length (question_bytes q) → question_of (take k (question_bytes q)) ≡ None

-- rows of equally many numbers below 2 ^ 64
abbrev pub EvenRows : ℕ → List (List ℕ) → Type 0
EvenRows columns rows = (row : List ℕ) → In row rows → (length row ≡ columns) × ((n : ℕ) → In n row → n < 2 ^ 64)

-- a table that is written as text is read back: as many rows of as many cells, and the same rows
abbrev pub TablesReadBack : Type 0
TablesReadBack =
    (rows : List (List ℕ)) (columns : ℕ) → EvenRows columns rows →
    (table_of (table_text rows) ≡ Ok (rows_out rows)) × (rows_of (rows_out rows) ≡ rows)
