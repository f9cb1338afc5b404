-- A question's own tables (canonical database, frozen query): its lines as rows, with a number of its own for each variable. They tell two questions apart if anything does. Assumes nothing: these are definitions.
use Rattle.std.specs.Prelude.{◌≡◌, ℕ, zero, suc, ◌+◌, ◌<◌, ◌≤◌, cond, ◌⊎◌, List, [], ◌∷◌, ◌++◌, ◌==◌}
use Rattle.question.specs.declared.terms.Term.{Term}
use Rattle.question.specs.declared.terms.Term.TheVariants.{Number, Variable}
use Rattle.question.specs.Question.{Line, Question, Row, Base, Value, all_at, In, Answers}
use Rattle.question.specs.Sound.{has, vars, line_vars}
use Rattle.question.specs.Laws.{Names}

-- the rows that the lines of table t are under a value
unfoldable pub rows_of : Value → ℕ → List Line → List Row
rows_of v t [] = []
rows_of v t (l ∷ ls) = cond (l.table == t) (all_at v l.cells ∷ rows_of v t ls) (rows_of v t ls)

-- the question's own tables, with variable x named v x
unfoldable pub own_tables : Value → Question → Base
own_tables v q t = rows_of v t q.lines

-- the variables of a question
unfoldable pub question_vars : Question → List ℕ
question_vars q = vars q.row ++ line_vars q.lines

-- different variables of p are named differently
abbrev pub ToldApart : Value → Question → Type 0
ToldApart v p = (x y : ℕ) → In x (question_vars p) → In y (question_vars p) → v x ≡ v y → x ≡ y

-- no variable of p is named as a number that r names
abbrev pub Avoids : Value → (p r : Question) → Type 0
Avoids v p r = (x : ℕ) → In x (question_vars p) → Names r (v x) → ⊥

-- the names of p's variables are the least that there are, in order of the variables
pub record LeastNames (v : Value) (p q : Question) : Type 0 where
  pub from_one : (x : ℕ) → In x (question_vars p) → 1 ≤ v x
  pub rising : (x y : ℕ) → In x (question_vars p) → In y (question_vars p) → x < y → v x < v y
  -- each number from 1 on below a name is named by a question, or is the name of a smaller variable of p
  pub least : (x n : ℕ) → In x (question_vars p) → 1 ≤ n → n < v x → (Names p n ⊎ Names q n) ⊎ ((y : ℕ) × In y (question_vars p) × (y < x) × (v y ≡ n))

-- from p's own tables p answers its own row, and q does not
pub record Shown (v : Value) (p q : Question) : Type 0 where
  pub answered : Answers (own_tables v p) p (all_at v p.row)
  pub not_answered : Answers (own_tables v p) q (all_at v p.row) → ⊥

-- the numbers that terms name
unfoldable pub numbers : List Term → List ℕ
numbers [] = []
numbers (Number n ∷ ts) = n ∷ numbers ts
numbers (Variable x ∷ ts) = numbers ts

-- the numbers that lines name
unfoldable pub line_numbers : List Line → List ℕ
line_numbers [] = []
line_numbers (l ∷ ls) = numbers l.cells ++ line_numbers ls

-- the numbers that a question names
unfoldable pub question_numbers : Question → List ℕ
question_numbers q = numbers q.row ++ line_numbers q.lines

-- a number above all of the list
unfoldable pub over : List ℕ → ℕ
over [] = 0
over (n ∷ ns) = suc n + over ns

-- the least number from n on that is not in the list, if k steps lead past all of it
unfoldable pub free_within : List ℕ → (k n : ℕ) → ℕ
free_within ns zero n = n
free_within ns (suc k) n = cond (has ns n) (free_within ns k (suc n)) n

-- the least number from n on that is not in the list
unfoldable pub free_from : List ℕ → ℕ → ℕ
free_from ns n = free_within ns (over ns) n

-- the numbers from 1 on that are not in the list, in order: the k-th of them, counted from 0
unfoldable pub name_past : List ℕ → ℕ → ℕ
name_past ns zero = free_from ns 1
name_past ns (suc k) = free_from ns (suc (name_past ns k))

-- how many different numbers of the list are below x
unfoldable pub rank : List ℕ → ℕ → ℕ
rank xs zero = 0
rank xs (suc x) = cond (has xs x) (suc (rank xs x)) (rank xs x)

-- our names for the variables of p: the least numbers from 1 on that neither question names, in order of the variables that p has
unfoldable pub naming : (p q : Question) → Value
naming p q x = name_past (question_numbers p ++ question_numbers q) (rank (question_vars p) x)
