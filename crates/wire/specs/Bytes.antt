-- The byte form of questions and requests: how it is read into lent numbers. Assumes nothing: these are definitions.
use Rattle.std.specs.Prelude.{ℕ, zero, suc, ◌+◌, ◌*◌, cond, List, [], ◌∷◌, ◌++◌, take, Some, None, Option, nat_le}
use Rattle.question.specs.Layout.{padded}
use Rattle.wire.specs.declared.requests.Request.{Request}

-- a reader: of some bytes the value that they begin with and the bytes behind it, or none where they are cut short
abbrev pub Reads : Type 0 → Type 0
Reads A = List ℕ → Option (A × List ℕ)

-- a value with nothing read, and nothing at all
abbrev pub gives : {A : Type 0} → A → Reads A
gives a bytes = Some (a, bytes)

abbrev pub refuses : {A : Type 0} → Reads A
refuses bytes = None

-- what a reader found is handed to the next, with the bytes behind
abbrev pub on : {A B : Type 0} → (A → Reads B) → Option (A × List ℕ) → Option (B × List ℕ)
on next (Some found) = next found.0 found.1
on next None = None

unfoldable pub ◌>>=◌ : {A B : Type 0} → Reads A → (A → Reads B) → Reads B
◌>>=◌ read next bytes = on next (read bytes)

-- n times the same: the numbers of all, in turn
unfoldable pub times : ℕ → Reads (List ℕ) → Reads (List ℕ)
times zero read = gives []
times (suc n) read = do
  first ← read
  others ← times n read
  gives (first ++ others)

-- the numbers in room for so many: what has no place is left out, what is not used is 0
abbrev pub in_room : ℕ → List ℕ → List ℕ
in_room n xs = padded n (take n xs)

abbrev pub read_byte : Reads ℕ
read_byte [] = None
read_byte (b ∷ bytes) = Some (b, bytes)

-- four bytes, the low one first
unfoldable pub read_number : Reads ℕ
read_number = do
  a ← read_byte
  b ← read_byte
  c ← read_byte
  d ← read_byte
  gives (a + b * 256 + c * 65536 + d * 16777216)

-- a term: its kind and its number
unfoldable pub read_term : Reads (List ℕ)
read_term = do
  kind ← read_byte
  n ← read_number
  gives (kind ∷ n ∷ [])

-- a row of terms: their count, and room for four
unfoldable pub read_row : Reads (List ℕ)
read_row = do
  count ← read_byte
  terms ← times count read_term
  gives (in_room 9 (count ∷ terms))

-- a line: its table and its terms
unfoldable pub read_line : Reads (List ℕ)
read_line = do
  table ← read_number
  cells ← read_row
  gives (table ∷ cells)

-- a question: its row, the count of its lines, and room for four
unfoldable pub read_question : Reads (List ℕ)
read_question = do
  wanted ← read_row
  count ← read_byte
  lines ← times count read_line
  gives (in_room 50 (wanted ++ count ∷ lines))

-- the reports of a request: their count, at most eight, and room for eight
unfoldable pub read_reports : Reads (List ℕ)
read_reports = do
  count ← read_byte
  all ← cond (nat_le count 8) (times count read_question) refuses
  gives (in_room 401 (count ∷ all))

-- a request: its reports, then its question
unfoldable pub read_request : Reads Request
read_request = do
  given ← read_reports
  asked ← read_question
  gives (record { reports = given; question = asked })

-- what is read, whatever stands behind it
abbrev pub value : {A : Type 0} → Option (A × List ℕ) → Option A
value (Some found) = Some found.0
value None = None

abbrev pub request_of : List ℕ → Option Request
request_of bytes = value (read_request bytes)

abbrev pub question_of : List ℕ → Option (List ℕ)
question_of bytes = value (read_question bytes)
