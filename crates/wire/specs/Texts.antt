-- What the parts of the table reader answer. Assumes nothing: these are definitions.
use Rattle.std.specs.Prelude.{◌≡◌, ℕ, suc, cond, List, [], ◌∷◌, ◌++◌, ◌+◌, ◌-◌, length, take, slice_index, Some, None, Ok, Err, decimal, Option, Result, ◌==◌}
use Rattle.std.specs.Option.{option_map}
use Rattle.wire.specs.Tables.{Grid, row_more}
use Rattle.wire.specs.declared.tables.TableFault.{TableFault}
use Rattle.wire.specs.declared.tables.TableFault.TheVariants.{Line, NoMemory}

-- a line without the byte that may stand at its end
unfoldable pub before_end : ℕ → List ℕ → List ℕ
before_end b line = cond (slice_index line (length line - 1) == b) (take (length line - 1) line) line

-- how many bytes stand before the first such one
unfoldable pub until : ℕ → List ℕ → ℕ
until b [] = 0
until b (x ∷ xs) = cond (x == b) 0 (suc (until b xs))

-- the row behind the cells so far
abbrev pub cells_behind : List ℕ → Option (List ℕ) → Option (List ℕ)
cells_behind before (Some row) = Some (before ++ row)
cells_behind before None = None

-- a call that puts the row of a line behind the cells: what they were, what the row is, and what they are now
abbrev pub Pushed : ℕ → List ℕ → Option (List ℕ) → List ℕ → Result Unit TableFault → Type 0
Pushed at before row after (Ok done) = cells_behind before row ≡ Some after
Pushed at before row after (Err (Line k)) = (row ≡ None) × (k ≡ at)
Pushed at before row after (Err NoMemory) = Unit {0}

-- cells in decimal, each behind a comma
unfoldable pub cells_text : List ℕ → List ℕ
cells_text [] = []
cells_text (n ∷ ns) = (44 ∷ decimal n) ++ cells_text ns

-- the grid with the next row, where the line has one
abbrev pub Grown : Grid → Option (List ℕ) → Grid → Result Unit TableFault → Type 0
Grown g row after (Ok done) = option_map (row_more g) row ≡ Some after
Grown g row after (Err (Line k)) = (row ≡ None) × (k ≡ g.rows + 1)
Grown g row after (Err NoMemory) = Unit {0}
