-- Which rows a line may stand on, and how they are copied for the join: the line's number, the cells in an order of the line's own, then zeros. Assumes nothing: these are definitions.
use Rattle.std.specs.Prelude.{◌≡◌, ℕ, ◌+◌, ◌<◌, Bool, true, false, cond, ◌&&◌, List, [], ◌∷◌, ◌++◌, length, drop, ◌==◌, nat_lt, slice_index, slice_index_or}
use Rattle.question.specs.declared.terms.Term.{Term}
use Rattle.question.specs.declared.terms.Term.TheVariants.{Number, Variable}
use Rattle.question.specs.Question.{Line, Row, Base}
use Rattle.question.specs.Tables.{rows_in}
use Rattle.answer.specs.declared.columns.Column.{Column}
use Rattle.answer.specs.Columns.{order_of}

-- the cells of the variable x all have the number
unfoldable pub one_number : (x number : ℕ) → List Term → Row → Bool
one_number x m [] r = true
one_number x m (t ∷ ts) [] = true
one_number x m (Number n ∷ ts) (c ∷ r) = one_number x m ts r
one_number x m (Variable y ∷ ts) (c ∷ r) = cond (y == x) (c == m) true && one_number x m ts r

-- the row may be what the terms are under a value: it is as wide, a number is that number, and the cells of one variable are equal
unfoldable pub takes : List Term → Row → Bool
takes [] [] = true
takes [] (c ∷ r) = false
takes (t ∷ ts) [] = false
takes (Number n ∷ ts) (c ∷ r) = c == n && takes ts r
takes (Variable x ∷ ts) (c ∷ r) = one_number x c ts r && takes ts r

abbrev pub copy_cell : (cols : List ℕ) → Row → ℕ → ℕ
copy_cell cols r c = cond (nat_lt c (length r)) (slice_index r (slice_index cols c)) 0

-- the copy of a row for the line with the number id
abbrev pub copy_row : (id : ℕ) (cols : List ℕ) → Row → List ℕ
copy_row id cols r = id ∷ copy_cell cols r 0 ∷ copy_cell cols r 1 ∷ copy_cell cols r 2 ∷ copy_cell cols r 3 ∷ []

-- the rows of the table at the front, if it has the number
abbrev pub first_rows : (table : ℕ) → List ℕ → List Row
first_rows t xs = cond (slice_index xs 0 == t) (rows_in (slice_index xs 1) (slice_index xs 2) (drop 3 xs)) []

-- the copies of the rows that the terms take
unfoldable pub copies_of : (id : ℕ) (cols : List ℕ) → List Term → List Row → List (List ℕ)
copies_of id cols ts [] = []
copies_of id cols ts (r ∷ rs) = cond (takes ts r) (copy_row id cols r ∷ []) [] ++ copies_of id cols ts rs

-- the copies for some lines, which are numbered from id on and have each an order of its own
unfoldable pub all_copies : Base → (id : ℕ) → List Line → List (List ℕ) → List (List ℕ)
all_copies b id [] cols = []
all_copies b id (l ∷ ls) cols = copies_of id (slice_index_or cols 0 []) l.cells (b l.table) ++ all_copies b (id + 1) ls (drop 1 cols)

-- the columns of a line's order are columns of the line
abbrev pub OrderWithin : (cols : List ℕ) (w : ℕ) → Type 0
OrderWithin cols w = (c : ℕ) → c < w → slice_index cols c < w

-- and they are as many as its terms
abbrev pub FitsLine : List Term → List Column → Type 0
FitsLine ts cs = (length cs ≡ length ts) × OrderWithin (order_of cs) (length ts)
