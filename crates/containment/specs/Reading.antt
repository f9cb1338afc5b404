-- One question read into another, which decides whether the other lies within it. Assumes nothing: these are definitions.
use Rattle.std.specs.Prelude.{◌≡◌, ℕ, List, [], ◌∷◌}
use Rattle.question.specs.declared.terms.Term.{Term}
use Rattle.question.specs.declared.terms.Term.TheVariants.{Number, Variable}
use Rattle.question.specs.Question.{Line, Question, In}

-- a term with its variable put as the reading says (substitution)
abbrev pub put : (ℕ → Term) → Term → Term
put h (Number n) = Number n
put h (Variable x) = h x

-- the same for each term of a row
unfoldable pub all_put : (ℕ → Term) → List Term → List Term
all_put h [] = []
all_put h (t ∷ ts) = put h t ∷ all_put h ts

-- the same for the cells of a line
unfoldable pub line_put : (ℕ → Term) → Line → Line
line_put h l = record { table = l.table; cells = all_put h l.cells }

-- the same for each line
unfoldable pub put_lines : (ℕ → Term) → List Line → List Line
put_lines h [] = []
put_lines h (l ∷ ls) = line_put h l ∷ put_lines h ls

-- as the reading puts them, the lines are lines of ms
pub data Into (h : ℕ → Term) (ms : List Line) : List Line → Type 0 where
  none_left : Into h ms []
  and_line : {l : Line} {ls : List Line} → In (line_put h l) ms → Into h ms ls → Into h ms (l ∷ ls)

-- q can be read into p (homomorphism, containment mapping): its variables are put so that its lines are lines of p and its row is p's row
pub record Reads (q p : Question) : Type 0 where
  pub how : ℕ → Term
  pub lines : Into how p.lines q.lines
  pub row : all_put how q.row ≡ p.row
