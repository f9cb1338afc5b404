-- The text form of a table, one row a line: how it is read, and how it is written. Assumes nothing: these are definitions.
use Rattle.std.specs.Prelude.{◌≡◌, ℕ, ◌+◌, ◌-◌, ◌*◌, cond, ◌&&◌, ◌||◌, List, [], ◌∷◌, ◌++◌, length, take, Some, None, Ok, Err, vec_items, decimal, Option, Result, ◌==◌, nat_le, nat_lt, slice_index}
use Rattle.question.specs.Tables.{rows_in}
use Rattle.wire.specs.declared.tables.Table.{Table}
use Rattle.wire.specs.declared.tables.TableFault.{TableFault}
use Rattle.wire.specs.declared.tables.TableFault.TheVariants.{Line, NoMemory}

-- what one step found is handed to the next
abbrev pub ◌>>=◌ : {A B : Type 0} → Option A → (A → Option B) → Option B
◌>>=◌ (Some a) next = next a
◌>>=◌ None next = None

-- a byte in front of the first piece
abbrev pub begin : ℕ → List (List ℕ) → List (List ℕ)
begin b [] = (b ∷ []) ∷ []
begin b (piece ∷ pieces) = (b ∷ piece) ∷ pieces

-- the lines of a text: each ends with byte 10, but the last need not unless it is empty
unfoldable pub lines : List ℕ → List (List ℕ)
lines [] = []
lines (b ∷ bytes) = cond (b == 10) ([] ∷ lines bytes) (begin b (lines bytes))

-- a line without the byte 13 that may stand right before its end
unfoldable pub trimmed : List ℕ → List ℕ
trimmed line = cond (slice_index line (length line - 1) == 13) (take (length line - 1) line) line

-- what stands between the commas of a line
unfoldable pub pieces : List ℕ → List (List ℕ)
pieces [] = [] ∷ []
pieces (b ∷ bytes) = cond (b == 44) ([] ∷ pieces bytes) (begin b (pieces bytes))

-- the number with one digit more, where it is a digit and the number stays below 2 ^ 64
unfoldable pub digit_more : ℕ → ℕ → Option ℕ
digit_more n d = cond (nat_le 48 d && nat_le d 57 && nat_lt (n * 10 + (d - 48)) 18446744073709551616) (Some (n * 10 + (d - 48))) None

unfoldable pub digits_more : ℕ → List ℕ → Option ℕ
digits_more n [] = Some n
digits_more n (d ∷ digits) = do
  m ← digit_more n d
  digits_more m digits

-- the number of a cell: at least one digit
unfoldable pub cell_number : List ℕ → Option ℕ
cell_number [] = None
cell_number (d ∷ digits) = digits_more 0 (d ∷ digits)

unfoldable pub cell_numbers : List (List ℕ) → Option (List ℕ)
cell_numbers [] = Some []
cell_numbers (cell ∷ cells) = do
  n ← cell_number cell
  ns ← cell_numbers cells
  Some (n ∷ ns)

-- the row of a line: one without anything has no cells
unfoldable pub line_row : List ℕ → Option (List ℕ)
line_row [] = Some []
line_row (b ∷ bytes) = cell_numbers (pieces (b ∷ bytes))

-- the rows of a table: how many, of how many cells each, and the cells row by row
pub record Grid : Type 0 where
  pub rows : ℕ
  pub columns : ℕ
  pub cells : List ℕ

abbrev pub no_rows : Grid
no_rows = record { rows = 0; columns = 0; cells = [] }

abbrev pub row_more : Grid → List ℕ → Grid
row_more g row = record { rows = g.rows + 1; columns = length row; cells = g.cells ++ row }

-- the row of the next line: it has as many cells as those before
unfoldable pub next_row : Grid → List ℕ → Option (List ℕ)
next_row g line = do
  row ← line_row (trimmed line)
  cond (g.rows == 0 || length row == g.columns) (Some row) None

-- the line that has no row is at fault
abbrev pub or_line : {A B : Type 0} → ℕ → (A → Result B ℕ) → Option A → Result B ℕ
or_line k next (Some a) = next a
or_line k next None = Err k

-- the rows of the lines behind those that are read, or the first line at fault, counted from 1
unfoldable pub rows_more : Grid → List (List ℕ) → Result Grid ℕ
rows_more g [] = Ok g
rows_more g (line ∷ others) = or_line (g.rows + 1) (λ row. rows_more (row_more g row) others) (next_row g line)

abbrev pub table_of : List ℕ → Result Grid ℕ
table_of text = rows_more no_rows (lines text)

-- the table or the line that is told is the one that is read; that there is no memory says nothing of the text
abbrev pub grid : Table → Grid
grid t = record { rows = t.rows; columns = t.columns; cells = vec_items t.cells }

abbrev pub Told : Result Grid ℕ → Result Table TableFault → Type 0
Told found (Ok t) = found ≡ Ok (grid t)
Told found (Err (Line k)) = found ≡ Err k
Told found (Err NoMemory) = Unit {0}

-- how a row is written: its cells in decimal, with commas between them
unfoldable pub row_text : List ℕ → List ℕ
row_text [] = []
row_text (n ∷ []) = decimal n
row_text (n ∷ m ∷ ns) = decimal n ++ (44 ∷ row_text (m ∷ ns))

unfoldable pub table_text : List (List ℕ) → List ℕ
table_text [] = []
table_text (row ∷ rows) = row_text row ++ (10 ∷ table_text rows)

-- rows as a grid, and the other way
abbrev pub width : List (List ℕ) → ℕ
width [] = 0
width (row ∷ rows) = length row

unfoldable pub all_cells : List (List ℕ) → List ℕ
all_cells [] = []
all_cells (row ∷ rows) = row ++ all_cells rows

abbrev pub rows_out : List (List ℕ) → Grid
rows_out rows = record { rows = length rows; columns = width rows; cells = all_cells rows }

abbrev pub rows_of : Grid → List (List ℕ)
rows_of g = rows_in g.rows g.columns g.cells
