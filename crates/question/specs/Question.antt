-- What a question is and what it answers. A question (the field says: conjunctive query) asks for the rows that its terms give when all its lines stand in the tables.
-- A term is the enum `Term` of the code: a number (constant) or a variable. Assumes nothing: these are definitions.
use Rattle.std.specs.Prelude.{◌≡◌, ℕ, List, [], ◌∷◌}
use Rattle.question.specs.declared.terms.Term.{Term}
use Rattle.question.specs.declared.terms.Term.TheVariants.{Number, Variable}

-- a line (atom): the terms have to be a row of the table
pub record Line : Type 0 where
  pub table : ℕ
  pub cells : List Term

-- the row that is wanted (head), and the lines that have to stand together (body)
pub record Question : Type 0 where
  pub row : List Term
  pub lines : List Line

-- a row of a table, or of an answer (tuple)
abbrev pub Row : Type 0
Row = List ℕ

-- what the tables hold (database instance): the rows of each table, by its number
abbrev pub Base : Type 0
Base = ℕ → List Row

-- a number for each variable (valuation)
abbrev pub Value : Type 0
Value = ℕ → ℕ

-- the number that a term is under a value
abbrev pub at : Value → Term → ℕ
at v (Number n) = n
at v (Variable x) = v x

-- the row that terms are under a value
unfoldable pub all_at : Value → List Term → Row
all_at v [] = []
all_at v (t ∷ ts) = at v t ∷ all_at v ts

-- a is one of the list
pub data In {A : Type 0} (a : A) : List A → Type 0 where
  here : {xs : List A} → In a (a ∷ xs)
  there : {x : A} {xs : List A} → In a xs → In a (x ∷ xs)

-- under the value, the lines stand in the tables: each line's row is one of its table's
pub data Stand (b : Base) (v : Value) : List Line → Type 0 where
  none_left : Stand b v []
  and_line : {l : Line} {ls : List Line} → In (all_at v l.cells) (b l.table) → Stand b v ls → Stand b v (l ∷ ls)

-- from these tables the question answers the row: there is a value under which all lines stand and the question's row is that row
pub record Answers (b : Base) (q : Question) (r : Row) : Type 0 where
  pub value : Value
  pub stand : Stand b value q.lines
  pub is : all_at value q.row ≡ r

-- p lies within q (containment): whatever the tables hold, p answers nothing that q does not
unfoldable pub Within : Question → Question → Type 0
Within p q = (b : Base) (r : Row) → Answers b p r → Answers b q r

-- two questions say the same (equivalence)
unfoldable pub Same : Question → Question → Type 0
Same p q = Within p q × Within q p
