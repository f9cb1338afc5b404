-- The widest question over the reports (the canonical rewriting of view tuples): every use that a report has on the question's own lines. If any question over the reports is right, the widest is. Assumes nothing: these are definitions.
use Rattle.std.specs.Prelude.{◌≡◌, ℕ, suc, ◌<◌, Bool, true, cond, ◌||◌, List, [], ◌∷◌, ◌++◌, map, length, Some, None, Option, nat_le, nat_lt, slice_index_or}
use Rattle.question.specs.Question.{Line, Question, In}
use Rattle.question.specs.Layout.{terms_out}
use Rattle.containment.specs.Reading.{all_put, Reads}
use Rattle.containment.specs.Search.{Part, nothing, match_line, filling}
use Rattle.containment.specs.Order.{nums_less, Apart, Rising}
use Rattle.reports.specs.Reports.{no_question}

-- a use that a report has on the question's own lines (view tuple): the report can be read into these lines with the use's cells for a row
abbrev pub OwnUse : List Question → Question → Line → Type 0
OwnUse reports q l = (l.table < length reports) × Reads (slice_index_or reports l.table no_question) (record { row = l.cells; lines = q.lines })

-- w is the widest question for q: its lines are all such uses and no others
pub record Widest (reports : List Question) (q w : Question) : Type 0 where
  pub row : w.row ≡ q.row
  pub right : (l : Line) → In l w.lines → OwnUse reports q l
  pub all : (l : Line) → OwnUse reports q l → In l w.lines

-- there are 33 different uses that reports have on the question's own lines: more than are tried
pub record IsTooWide (reports : List Question) (q : Question) : Type 0 where
  pub lines : List Line
  pub many : length lines ≡ 33
  pub apart : Apart lines
  pub right : (l : Line) → In l lines → OwnUse reports q l

-- what follows a match, if there is one
abbrev pub on_each : {A B : Type 0} → Option A → (A → List B) → List B
on_each None f = []
on_each (Some s) f = f s

-- the line l is read into each of the lines; go is what has to follow
unfoldable pub all_lines : (Part → List Part) → List Line → Line → Part → List Part
all_lines go [] l s = []
all_lines go (m ∷ ms) l s = on_each (match_line s l m) go ++ all_lines go ms l s

-- all readings, past s, of the lines ls into ms
unfoldable pub all_readings : (ls ms : List Line) → Part → List Part
all_readings [] ms s = s ∷ []
all_readings (l ∷ ls) ms s = all_lines (all_readings ls ms) ms l s

-- the use that a reading of the t-th report makes
abbrev pub use_of : ℕ → Question → Part → Line
use_of t r s = record { table = t; cells = all_put (filling s) r.row }

-- a variable's number in a reading is one that stands for a term within the limits, or for nothing
abbrev pub code_within : ℕ → Bool
code_within k = nat_lt k 4294967312 || nat_le 8589934592 k

-- the uses of all reports, from the t-th on, as often as there are readings
unfoldable pub all_uses : Question → ℕ → List Question → List Line
all_uses q t [] = []
all_uses q t (r ∷ rs) = map (use_of t r) (all_readings r.lines q.lines nothing) ++ all_uses q (suc t) rs

-- a line as numbers that put lines in order: by report, then term by term, a number before a variable and each kind by size
unfoldable pub line_nums : Line → List ℕ
line_nums l = l.table ∷ terms_out l.cells

-- one line comes before another
unfoldable pub line_less : Line → Line → Bool
line_less l m = nums_less (line_nums l) (line_nums m)

-- the same, as a fact
abbrev pub Before : Line → Line → Type 0
Before l m = line_less l m ≡ true

-- a line put in where it belongs, unless it is there
unfoldable pub insert_line : Line → List Line → List Line
insert_line l [] = l ∷ []
insert_line l (m ∷ ms) = cond (line_less l m) (l ∷ m ∷ ms) (cond (line_less m l) (m ∷ insert_line l ms) (m ∷ ms))

-- the lines in order, each once
unfoldable pub sort_lines : List Line → List Line
sort_lines [] = []
sort_lines (l ∷ ls) = insert_line l (sort_lines ls)

-- the lines stand in order, each once
abbrev pub Sorted : List Line → Type 0
Sorted = Rising Before

-- the widest question for q over the reports
unfoldable pub widest : List Question → Question → Question
widest reports q = record { row = q.row; lines = sort_lines (all_uses q 0 reports) }
