-- Reports in lent numbers: their count, then fifty numbers for each, in room for eight. Assumes nothing: these are definitions.
use Rattle.std.specs.Prelude.{ℕ, zero, suc, List, [], ◌∷◌, ◌++◌, length, take, drop, slice_index}
use Rattle.question.specs.Question.{Question}
use Rattle.question.specs.Layout.{padded, question_in, question_out}

-- the first n questions that lie in the numbers
unfoldable pub questions_in : ℕ → List ℕ → List Question
questions_in zero xs = []
questions_in (suc n) xs = question_in (take 50 xs) ∷ questions_in n (drop 50 xs)

unfoldable pub questions_out : List Question → List ℕ
questions_out [] = []
questions_out (q ∷ qs) = question_out q ++ questions_out qs

-- the reports that lie in the numbers, and the other way, with 0 where room is left
unfoldable pub reports_in : List ℕ → List Question
reports_in xs = questions_in (slice_index xs 0) (drop 1 xs)

unfoldable pub reports_out : List Question → List ℕ
reports_out rs = padded 401 (length rs ∷ questions_out rs)
