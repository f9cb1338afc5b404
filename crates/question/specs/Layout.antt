-- How terms, lines and questions lie in lent numbers: a term is two numbers, a line ten, a question fifty. Assumes nothing: these are definitions.
use Rattle.std.specs.Prelude.{ℕ, zero, suc, ◌<◌, ◌+◌, ◌-◌, ◌*◌, Bool, true, cond, ◌&&◌, List, [], ◌∷◌, ◌++◌, length, take, drop, replicate, ◌==◌, nat_le, nat_lt, slice_index}
use Rattle.question.specs.declared.terms.Term.{Term}
use Rattle.question.specs.declared.terms.Term.TheVariants.{Number, Variable}
use Rattle.question.specs.Question.{Line, Question, Value}

-- a term is its kind and its number: 0 and a number, or 1 and a variable
abbrev pub term_in : ℕ → ℕ → Term
term_in zero n = Number n
term_in (suc k) x = Variable x

-- the kind and the number make a term whose variable is below the limit
abbrev pub term_fits : (limit kind n : ℕ) → Bool
term_fits limit kind n = cond (kind == 0) (nat_lt n 4294967296) (kind == 1 && nat_lt n limit)

-- the first n terms that lie in the numbers
unfoldable pub terms_in : ℕ → List ℕ → List Term
terms_in zero xs = []
terms_in (suc n) xs = term_in (slice_index xs 0) (slice_index xs 1) ∷ terms_in n (drop 2 xs)

unfoldable pub terms_fit : (limit n : ℕ) → List ℕ → Bool
terms_fit limit zero xs = true
terms_fit limit (suc n) xs = term_fits limit (slice_index xs 0) (slice_index xs 1) && terms_fit limit n (drop 2 xs)

-- the same of two numbers that lie in a list of their own
abbrev pub pair_term : List ℕ → Term
pair_term p = term_in (slice_index p 0) (slice_index p 1)

abbrev pub pair_fits : ℕ → List ℕ → Bool
pair_fits limit p = term_fits limit (slice_index p 0) (slice_index p 1)

abbrev pub two_fit : (limit : ℕ) → List ℕ → Bool
two_fit limit p = (length p == 2) && pair_fits limit p

-- a term as one number: the number n is n, and the variable x is 2^32 + x
unfoldable pub code : Term → ℕ
code (Number n) = n
code (Variable x) = 4294967296 + x

-- terms that have such a number of their own
abbrev pub Codes : Term → Type 0
Codes (Number n) = n < 4294967296
Codes (Variable x) = x < 4294967296

-- a line is its table, the count of its cells, and room for four terms
abbrev pub line_in : List ℕ → Line
line_in xs = record { table = slice_index xs 0; cells = terms_in (slice_index xs 1) (drop 2 xs) }

unfoldable pub line_fits : (limit : ℕ) → List ℕ → Bool
line_fits limit xs = nat_lt (slice_index xs 0) 4294967296 && (nat_le (slice_index xs 1) 4 && terms_fit limit (slice_index xs 1) (drop 2 xs))

-- the same of ten numbers that lie in a list of their own
abbrev pub ten_fit : (limit : ℕ) → List ℕ → Bool
ten_fit limit xs = (length xs == 10) && line_fits limit xs

-- the first n lines that lie in the numbers, ten numbers to a line
unfoldable pub lines_in : ℕ → List ℕ → List Line
lines_in zero xs = []
lines_in (suc n) xs = line_in xs ∷ lines_in n (drop 10 xs)

unfoldable pub lines_fit : (limit n : ℕ) → List ℕ → Bool
lines_fit limit zero xs = true
lines_fit limit (suc n) xs = line_fits limit xs && lines_fit limit n (drop 10 xs)

-- the numbers of the i-th of such lines
unfoldable pub line_part : ℕ → List ℕ → List ℕ
line_part i xs = take 10 (drop (10 * i) xs)

-- a question is the count of its row, room for four terms, the count of its lines, and room for four lines
unfoldable pub question_in : List ℕ → Question
question_in xs = record { row = terms_in (slice_index xs 0) (drop 1 xs); lines = lines_in (slice_index xs 9) (drop 10 xs) }

-- the other way: terms, a line and a question as they are written, with 0 where room is left
unfoldable pub terms_out : List Term → List ℕ
terms_out [] = []
terms_out (Number n ∷ ts) = 0 ∷ n ∷ terms_out ts
terms_out (Variable x ∷ ts) = 1 ∷ x ∷ terms_out ts

abbrev pub padded : ℕ → List ℕ → List ℕ
padded n xs = xs ++ replicate (n - length xs) 0

unfoldable pub line_out : Line → List ℕ
line_out l = l.table ∷ length l.cells ∷ padded 8 (terms_out l.cells)

unfoldable pub lines_out : List Line → List ℕ
lines_out [] = []
lines_out (l ∷ ls) = line_out l ++ lines_out ls

unfoldable pub question_out : Question → List ℕ
question_out q = (length q.row ∷ padded 8 (terms_out q.row)) ++ (length q.lines ∷ padded 40 (lines_out q.lines))

-- the value that numbers give, the x-th to variable x
abbrev pub value_in : List ℕ → Value
value_in vs x = slice_index vs x
