-- A question over reports with each report's lines put in for its name (expansion, unfolding). Assumes nothing: these are definitions.
use Rattle.std.specs.Prelude.{ℕ, ◌+◌, ◌<◌, cond, List, [], ◌∷◌, ◌++◌, ◌==◌, slice_index_or}
use Rattle.question.specs.declared.terms.Term.{Term}
use Rattle.question.specs.declared.terms.Term.TheVariants.{Number, Variable}
use Rattle.question.specs.Question.{Line, Question, In}
use Rattle.containment.specs.Reading.{put_lines}
use Rattle.reports.specs.Reports.{no_question}

-- the term of the use that stands where the report's row has variable x, or d where it has none
unfoldable pub assign : (row cells : List Term) → Term → ℕ → Term
assign [] cs d x = d
assign (r ∷ rs) [] d x = d
assign (Number n ∷ rs) (c ∷ cs) d x = assign rs cs d x
assign (Variable y ∷ rs) (c ∷ cs) d x = cond (y == x) c (assign rs cs d x)

-- how a use with such cells puts the variables of a report with such a row: those of the row as the use says, inner ones as new variables from base on
abbrev pub row_put : (row cells : List Term) (base : ℕ) → ℕ → Term
row_put row cells base x = assign row cells (Variable (base + x)) x

-- the same for a use of one of the reports
abbrev pub use_put : (reports : List Question) (base : ℕ) (l : Line) → ℕ → Term
use_put reports base l = row_put (slice_index_or reports l.table no_question).row l.cells base

-- the lines of the report, for one use
abbrev pub use_lines : (reports : List Question) (base : ℕ) (l : Line) → List Line
use_lines reports base l = put_lines (use_put reports base l) (slice_index_or reports l.table no_question).lines

-- the lines of all uses; each has new variables of its own, width of them
unfoldable pub expand_lines : (reports : List Question) (width base : ℕ) → List Line → List Line
expand_lines reports width base [] = []
expand_lines reports width base (l ∷ ls) = use_lines reports base l ++ expand_lines reports width (base + width) ls

-- the question over the tables that a question over reports stands for
unfoldable pub expand : (reports : List Question) (width base : ℕ) → Question → Question
expand reports width base p = record { row = p.row; lines = expand_lines reports width base p.lines }

-- every variable of the lines is below n
abbrev pub Below : ℕ → List Line → Type 0
Below n ls = (l : Line) → In l ls → (x : ℕ) → In (Variable x) l.cells → x < n

-- every variable of a report is below width, so that new variables of two uses are different
abbrev pub Narrow : ℕ → List Question → Type 0
Narrow width reports = (r : Question) → In r reports → Below width r.lines
