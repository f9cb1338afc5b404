-- Reports (views): what a question answers, kept under a name; and questions that are asked of reports alone. Assumes nothing: these are definitions.
use Rattle.std.specs.Prelude.{◌≡◌, ℕ, ◌<◌, Bool, true, ◌&&◌, List, [], ◌∷◌, length, get_or, ◌==◌, nat_lt, slice_index_or}
use Rattle.question.specs.declared.terms.Term.{Term}
use Rattle.question.specs.Question.{Line, Question, Row, Base, Value, all_at, Answers}
use Rattle.question.specs.Sound.{sound}
use Rattle.containment.specs.Reading.{all_put}

-- stands where there is no report
abbrev pub no_question : Question
no_question = record { row = []; lines = [] }

-- under the value, the lines stand in the reports, of whatever tables these are made: each line's row is one that its report answers
pub data Held (b : Base) (reports : List Question) (v : Value) : List Line → Type 0 where
  none_left : Held b reports v []
  and_line : {l : Line} {ls : List Line} → l.table < length reports → Answers b (slice_index_or reports l.table no_question) (all_at v l.cells) → Held b reports v ls
      → Held b reports v (l ∷ ls)

-- the reports tell the row: a question over reports, whose tables are reports by their place, is answered by it
pub record Told (b : Base) (reports : List Question) (q : Question) (r : Row) : Type 0 where
  pub value : Value
  pub held : Held b reports value q.lines
  pub is : all_at value q.row ≡ r

-- each line uses a report that there is, and is as wide as the report's row
unfoldable pub fits : List Question → List Line → Bool
fits reports [] = true
fits reports (l ∷ ls) = (nat_lt l.table (length reports) && length l.cells == length (get_or reports l.table no_question).row) && fits reports ls

-- the use's cells are the report's row with its variables put as something: numbers agree, and so do repeated columns
abbrev pub Shaped : List Question → Line → Type 0
Shaped reports l = (l.table < length reports) × ((h : ℕ → Term) × (all_put h (get_or reports l.table no_question).row ≡ l.cells))

-- p over the reports is right for q (an equivalent rewriting): whatever the tables hold, asking the reports gives what asking the tables gives
pub record AnsweredBy (reports : List Question) (q p : Question) : Type 0 where
  pub proper : (sound p && fits reports p.lines) ≡ true
  pub no_more : (b : Base) (r : Row) → Told b reports p r → Answers b q r
  pub no_less : (b : Base) (r : Row) → Answers b q r → Told b reports p r

-- each report is a sound question; its row may hold numbers and repeated variables
unfoldable pub all_sound : List Question → Bool
all_sound [] = true
all_sound (q ∷ qs) = sound q && all_sound qs
