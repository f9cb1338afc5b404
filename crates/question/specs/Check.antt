-- How a lent question is turned away, and what it means that it is not. Assumes nothing: these are definitions.
use Rattle.std.specs.Prelude.{◌≡◌, ℕ, zero, suc, ◌+◌, ◌*◌, ◌≤◌, min, Bool, true, cond, ◌&&◌, List, [], ◌∷◌, length, take, drop, Some, None, Option, ◌==◌, nat_le, nat_lt, slice_index, slice_index_or}
use Rattle.std.specs.Option.{option_map, option_or}
use Rattle.question.specs.declared.terms.Term.{Term}
use Rattle.question.specs.declared.refusals.Refusal.{Refusal}
use Rattle.question.specs.declared.refusals.Refusal.TheVariants.{CutShort, NoQuestion}
use Rattle.question.specs.Question.{Line, Question}
use Rattle.question.specs.Sound.{sound, Allowed}
use Rattle.question.specs.Layout.{terms_fit, line_fits, line_part, question_in, terms_out}

-- the line has not the table with another width
abbrev pub line_agrees : (table width : ℕ) → List ℕ → Bool
line_agrees t w xs = cond (slice_index xs 0 == t) (slice_index xs 1 == w) true

-- none of the first n lines has
unfoldable pub agrees : (n table width : ℕ) → List ℕ → Bool
agrees zero t w xs = true
agrees (suc n) t w xs = line_agrees t w xs && agrees n t w (drop 10 xs)

-- the i-th line is one, and agrees in its width with the lines before it
abbrev pub line_good : List ℕ → ℕ → Bool
line_good xs i = line_fits 16 (line_part i xs) && agrees i (slice_index (line_part i xs) 0) (slice_index (line_part i xs) 1) xs

-- the least line at fault, of n lines from the i-th on
unfoldable pub least_fault : List ℕ → ℕ → ℕ → Option ℕ
least_fault xs zero i = None
least_fault xs (suc n) i = cond (line_good xs i) (least_fault xs n (i + 1)) (Some i)

-- there are at most four lines and at least one, the row is at most four terms, and each of its variables stands in a line
abbrev pub row_good : List ℕ → Bool
row_good xs = (nat_le (slice_index xs 9) 4 && (nat_le (slice_index xs 0) 4 && terms_fit 16 (slice_index xs 0) (drop 1 xs))) && sound (question_in xs)

-- where fifty numbers are no question: the least line at fault, else 4 for the row and for the count of lines
unfoldable pub fault : List ℕ → Option ℕ
fault xs = option_or (least_fault (drop 10 xs) (min (slice_index xs 9) 4) 0) (cond (row_good xs) None (Some 4))

-- a lent question is cut short
abbrev pub cut_short : List ℕ → Option Refusal
cut_short xs = cond (nat_lt (length xs) 50) (Some (CutShort (length xs))) None

-- how a lent question is turned away: number 1 at its length where it is shorter than fifty, else number 2 at the fault
unfoldable pub question_refusal : List ℕ → Option Refusal
question_refusal xs = cond (nat_lt (length xs) 50) (Some (CutShort (length xs))) (option_map NoQuestion (fault xs))

-- the numbers write the terms down; what lies behind them may be anything
abbrev pub WritesTerms : List ℕ → List Term → Type 0
WritesTerms xs ts = take (2 * length ts) xs ≡ terms_out ts

pub record WritesLine (xs : List ℕ) (l : Line) : Type 0 where
  pub table : slice_index_or xs 0 0 ≡ l.table
  pub count : slice_index_or xs 1 0 ≡ length l.cells
  pub cells : WritesTerms (drop 2 xs) l.cells

pub data WritesLines : List ℕ → List Line → Type 0 where
  none_left : {xs : List ℕ} → WritesLines xs []
  and_line : {xs : List ℕ} {l : Line} {ls : List Line} → WritesLine xs l → WritesLines (drop 10 xs) ls → WritesLines xs (l ∷ ls)

-- fifty numbers and more write the question down
pub record Writes (xs : List ℕ) (q : Question) : Type 0 where
  pub long : 50 ≤ length xs
  pub row_count : slice_index_or xs 0 0 ≡ length q.row
  pub row : WritesTerms (drop 1 xs) q.row
  pub line_count : slice_index_or xs 9 0 ≡ length q.lines
  pub lines : WritesLines (drop 10 xs) q.lines

-- the numbers are a question that may be asked
abbrev pub IsQuestion : List ℕ → Type 0
IsQuestion xs = (q : Question) × Writes xs q × Allowed q
