-- The fewest uses of reports that answer a question (a minimal equivalent rewriting over views): what it is to find them, and how they are found. Assumes nothing: these are definitions.
use Rattle.std.specs.Prelude.{◌≡◌, ℕ, ◌≤◌, Bool, ◌⊎◌, List, length, Some, None, Option}
use Rattle.std.specs.Option.{option_map}
use Rattle.question.specs.Question.{Line, Question, In}
use Rattle.containment.specs.Search.{can_read}
use Rattle.containment.specs.Order.{Earlier}
use Rattle.minimization.specs.Choices.{by_size}
use Rattle.reports.specs.Reports.{AnsweredBy}
use Rattle.reports.specs.Expand.{expand}
use Rattle.reports.specs.Widest.{Before, Sorted, widest}

-- the answer: a question over the reports that is right, with as few uses of reports as any that is; or none, since none is right
pub data Found (reports : List Question) (q : Question) : Option Question → Type 0 where
  by : {p : Question} → AnsweredBy reports q p → ((o : Question) → AnsweredBy reports q o → length p.lines ≤ length o.lines) → Found reports q (Some p)
  by_none : ((o : Question) → AnsweredBy reports q o → ⊥) → Found reports q None

-- the question's row over other lines
abbrev pub over_lines : Question → List Line → Question
over_lines q ls = record { row = q.row; lines = ls }

-- these uses will do: the question can be read into what they expand to
unfoldable pub will_do : (reports : List Question) (width base : ℕ) → Question → List Line → Bool
will_do reports width base q ls = can_read q (expand reports width base (over_lines q ls))

-- of the choices of the lines ws that will do one of the shortest, and of these the first
unfoldable pub choose : (reports : List Question) (width base : ℕ) → Question → List Line → Option (List Line)
choose reports width base q ws = by_size (will_do reports width base q) ws (length q.lines) 1

-- what is found: the question's row over such a choice of the widest question's lines
unfoldable pub find : (reports : List Question) (width base : ℕ) → Question → Option Question
find reports width base q = option_map (over_lines q) (choose reports width base q (widest reports q).lines)

-- some lines of the widest question, in order and each once
pub record Choice (reports : List Question) (q : Question) (ls : List Line) : Type 0 where
  pub sorted : Sorted ls
  pub from : (l : Line) → In l ls → In l (widest reports q).lines

-- p's lines are such a choice, and they come first, line by line, of all such choices of as many lines that are right
pub record First (reports : List Question) (q p : Question) : Type 0 where
  pub row : p.row ≡ q.row
  pub choice : Choice reports q p.lines
  pub first : (ls : List Line) → Choice reports q ls → length ls ≡ length p.lines → AnsweredBy reports q (over_lines q ls) → (p.lines ≡ ls) ⊎ Earlier Before p.lines ls
