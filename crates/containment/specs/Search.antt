-- Looking for a reading: the rows are matched first, then line after line, each with every line of the other in turn (backtracking). Assumes nothing: these are definitions.
use Rattle.std.specs.Prelude.{ℕ, Bool, true, false, cond, ◌&&◌, List, [], ◌∷◌, is_some, Some, None, Option, ◌==◌}
use Rattle.std.specs.Option.{option_or}
use Rattle.question.specs.declared.terms.Term.{Term}
use Rattle.question.specs.declared.terms.Term.TheVariants.{Number, Variable}
use Rattle.question.specs.Question.{Line, Question}

-- two terms are the same
unfoldable pub term_eqb : Term → Term → Bool
term_eqb (Number m) (Number n) = m == n
term_eqb (Number m) (Variable y) = false
term_eqb (Variable x) (Number n) = false
term_eqb (Variable x) (Variable y) = x == y

-- a part of a reading (partial substitution): which variables are put so far, and as what
abbrev pub Part : Type 0
Part = ℕ → Option Term

-- nothing is put yet
abbrev pub nothing : Part
nothing x = None

-- one more variable is put
abbrev pub put_one : Part → ℕ → Term → Part
put_one s x c y = cond (x == y) (Some c) (s y)

-- what goes on from a value, if there is one
abbrev pub and_then : {A B : Type 0} → Option A → (A → Option B) → Option B
and_then None f = None
and_then (Some a) f = f a

-- the variable x, put as the first argument says, is to be the term c
unfoldable pub match_var : Option Term → Part → ℕ → Term → Option Part
match_var None s x c = Some (put_one s x c)
match_var (Some d) s x c = cond (term_eqb d c) (Some s) None

-- the part s, made to put the term t as c; none if it puts it otherwise
unfoldable pub match_term : Part → Term → Term → Option Part
match_term s (Number n) c = cond (term_eqb (Number n) c) (Some s) None
match_term s (Variable x) c = match_var (s x) s x c

-- the same for rows of terms, which have to be equally long
unfoldable pub match_terms : Part → List Term → List Term → Option Part
match_terms s [] [] = Some s
match_terms s [] (c ∷ cs) = None
match_terms s (t ∷ ts) [] = None
match_terms s (t ∷ ts) (c ∷ cs) = and_then (match_term s t c) (λ r. match_terms r ts cs)

-- the same for lines, which have to be of one table
unfoldable pub match_line : Part → Line → Line → Option Part
match_line s l m = cond (l.table == m.table) (match_terms s l.cells m.cells) None

-- the line l is tried with each of the lines in turn; go is what has to follow
unfoldable pub try_lines : (Part → Option Part) → List Line → Line → Part → Option Part
try_lines go [] l s = None
try_lines go (m ∷ ms) l s = option_or (and_then (match_line s l m) go) (try_lines go ms l s)

-- the first part, past s, that puts the lines ls as lines of ms
unfoldable pub read_lines : (ls ms : List Line) → Part → Option Part
read_lines [] ms s = Some s
read_lines (l ∷ ls) ms s = try_lines (read_lines ls ms) ms l s

-- each of the lines ls, alone, can be put as one of ms past s: if not, there is no reading of them all
unfoldable pub all_placed : (ls ms : List Line) → Part → Bool
all_placed [] ms s = true
all_placed (l ∷ ls) ms s = is_some (try_lines Some ms l s) && all_placed ls ms s

-- the first reading of q into p
unfoldable pub first_reading : Question → Question → Option Part
first_reading q p = and_then (match_terms nothing q.row p.row) (read_lines q.lines p.lines)

-- q can be read into p
unfoldable pub can_read : Question → Question → Bool
can_read q p = is_some (first_reading q p)

-- what is not put is put as 0
unfoldable pub fill : Option Term → Term
fill None = Number 0
fill (Some t) = t

-- a part of a reading, filled up to a whole one
abbrev pub filling : Part → ℕ → Term
filling s x = fill (s x)
