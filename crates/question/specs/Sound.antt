-- Which questions are asked at all: sound, of one width for each table, and within the limits. Assumes nothing: these are definitions.
use Rattle.std.specs.Prelude.{◌≡◌, ℕ, ◌<◌, ◌≤◌, Bool, true, false, cond, ◌&&◌, List, [], ◌∷◌, ◌++◌, length, ◌==◌, nat_lt}
use Rattle.question.specs.declared.terms.Term.{Term}
use Rattle.question.specs.declared.terms.Term.TheVariants.{Number, Variable}
use Rattle.question.specs.Question.{Line, Question, In}

-- the list has the number
unfoldable pub has : List ℕ → ℕ → Bool
has [] n = false
has (m ∷ ms) n = cond (m == n) true (has ms n)

-- the variables of some terms
unfoldable pub vars : List Term → List ℕ
vars [] = []
vars (Number n ∷ ts) = vars ts
vars (Variable x ∷ ts) = x ∷ vars ts

-- the variables of some lines
unfoldable pub line_vars : List Line → List ℕ
line_vars [] = []
line_vars (l ∷ ls) = vars l.cells ++ line_vars ls

-- each number of the first list is in the second
unfoldable pub all_in : List ℕ → List ℕ → Bool
all_in [] ms = true
all_in (n ∷ ns) ms = cond (has ms n) (all_in ns ms) false

-- a question is sound (safe): there are lines, and every variable of the row stands in one
unfoldable pub sound : Question → Bool
sound q = nat_lt 0 (length q.lines) && all_in (vars q.row) (line_vars q.lines)

-- one table has one width
abbrev pub OneWidth : List Line → Type 0
OneWidth ls = (l m : Line) → In l ls → In m ls → l.table ≡ m.table → length l.cells ≡ length m.cells

-- a number is below 2^32, and a variable one of x0 to x15
abbrev pub TermWithin : Term → Type 0
TermWithin (Number n) = n < 4294967296
TermWithin (Variable x) = x < 16

-- the limits of some terms, the row of a question or the cells of a line: at most four
pub record TermsWithin (ts : List Term) : Type 0 where
  pub few : length ts ≤ 4
  pub each : (t : Term) → In t ts → TermWithin t

-- a question that may be asked
pub record Allowed (q : Question) : Type 0 where
  pub row : TermsWithin q.row
  pub few : length q.lines ≤ 4
  pub tables : (l : Line) → In l q.lines → l.table < 4294967296
  pub cells : (l : Line) → In l q.lines → TermsWithin l.cells
  pub one_width : OneWidth q.lines
  pub is_sound : sound q ≡ true
