-- The different terms of a question in a list, as numbers, and the slot of a term: its place there. Assumes nothing: these are definitions.
use Rattle.std.specs.Prelude.{ℕ, suc, ◌+◌, cond, List, [], ◌∷◌, ◌++◌, length, ◌==◌, nat_lt}
use Rattle.question.specs.declared.terms.Term.{Term}
use Rattle.question.specs.declared.terms.Term.TheVariants.{Number, Variable}
use Rattle.question.specs.Question.{Line}
use Rattle.question.specs.Layout.{code}
use Rattle.answer.specs.declared.codes.Kind.{Kind}
use Rattle.answer.specs.declared.codes.Kind.TheVariants.{Numbers, Variables}

-- the first place of a number, and the length where it has none
unfoldable pub first_place : List ℕ → ℕ → ℕ
first_place [] c = 0
first_place (x ∷ xs) c = cond (x == c) 0 (suc (first_place xs c))

abbrev pub place_in : List ℕ → Term → ℕ
place_in xs t = first_place xs (code t)

-- one more, unless it is there
unfoldable pub put_in : List ℕ → ℕ → List ℕ
put_in xs c = cond (nat_lt (first_place xs c) (length xs)) xs (xs ++ c ∷ [])

unfoldable pub all_put_in : List ℕ → List ℕ → List ℕ
all_put_in xs [] = xs
all_put_in xs (c ∷ cs) = all_put_in (put_in xs c) cs

-- the numbers of some terms, or else the variables
unfoldable pub codes_of : Kind → List Term → List ℕ
codes_of Numbers [] = []
codes_of Variables [] = []
codes_of Numbers (Number n ∷ ts) = n ∷ codes_of Numbers ts
codes_of Numbers (Variable x ∷ ts) = codes_of Numbers ts
codes_of Variables (Number n ∷ ts) = codes_of Variables ts
codes_of Variables (Variable x ∷ ts) = (4294967296 + x) ∷ codes_of Variables ts

unfoldable pub line_codes : Kind → List Line → List ℕ
line_codes kind [] = []
line_codes kind (l ∷ ls) = codes_of kind l.cells ++ line_codes kind ls
