-- What is written is bytes: each number is below 256.
use Rattle.std.proofs.Common.{ℕ, ◌/◌, ◌%◌, ◌<◌, List, [], ◌∷◌, ◌++◌, length, inl, inr, arith}
use Rattle.question.specs.declared.terms.Term.{Term}
use Rattle.question.specs.declared.terms.Term.TheVariants.{Number, Variable}
use Rattle.question.specs.Question.{Line, Question, In}
use Rattle.question.specs.Question.In.{here, there}
use Rattle.question.proofs.Members.{in_split, in_cases}
use Rattle.wire.specs.Written.{number_bytes, term_bytes, terms_bytes, row_bytes, line_bytes, lines_bytes, question_bytes, questions_bytes, request_bytes, SmallRow, SmallLine, Small}
use Rattle.wire.specs.Laws.{AllBytes, WrittenInBytes}

none_below : AllBytes []
none_below b m = elim m [ ]

one_below : (x : ℕ) (xs : List ℕ) → x < 256 → AllBytes xs → AllBytes (x ∷ xs)
one_below x xs h f b m = in_cases (b < 256) (λ e. omega arith) (f b) m

both_below : (xs ys : List ℕ) → AllBytes xs → AllBytes ys → AllBytes (xs ++ ys)
both_below xs ys f g b m = elim (in_split xs ys m) [ inl i ↦ f b i | inr i ↦ g b i ]

number-below : (n : ℕ) → AllBytes (number_bytes n)
unfolding number_bytes
number-below n =
    one_below (n % 256) _ (omega arith)
    (one_below (n / 256 % 256) _ (omega arith) (one_below (n / 65536 % 256) _ (omega arith) (one_below (n / 16777216 % 256) _ (omega arith) none_below)))

terms_below : (ts : List Term) → AllBytes (terms_bytes ts)
unfolding terms_bytes term_bytes
terms_below [] = none_below
terms_below (Number n ∷ ts) = one_below 0 _ (omega arith) (both_below (number_bytes n) (terms_bytes ts) (number-below n) (terms_below ts))
terms_below (Variable x ∷ ts) = one_below 1 _ (omega arith) (both_below (number_bytes x) (terms_bytes ts) (number-below x) (terms_below ts))

row_below : (ts : List Term) → SmallRow ts → AllBytes (row_bytes ts)
unfolding row_bytes
row_below ts h = one_below (length ts) (terms_bytes ts) (omega (arith, h.few)) (terms_below ts)

line-below : (l : Line) → SmallLine l → AllBytes (line_bytes l)
unfolding line_bytes
line-below l h = both_below (number_bytes l.table) (row_bytes l.cells) (number-below l.table) (row_below l.cells h.cells)

lines-below : (ls : List Line) → ((l : Line) → In l ls → SmallLine l) → AllBytes (lines_bytes ls)
unfolding lines_bytes
lines-below [] h = none_below
lines-below (l ∷ ls) h = both_below (line_bytes l) (lines_bytes ls) (line-below l (h l here)) (lines-below ls (λ s m. h s (there m)))

question-below : (q : Question) → Small q → AllBytes (question_bytes q)
unfolding question_bytes
question-below q h =
    both_below (row_bytes q.row) (length q.lines ∷ lines_bytes q.lines) (row_below q.row h.row)
    (one_below (length q.lines) (lines_bytes q.lines) (omega (arith, h.few)) (lines-below q.lines h.each))

questions_below : (qs : List Question) → ((q : Question) → In q qs → Small q) → AllBytes (questions_bytes qs)
unfolding questions_bytes
questions_below [] h = none_below
questions_below (q ∷ qs) h = both_below (question_bytes q) (questions_bytes qs) (question-below q (h q here)) (questions_below qs (λ s m. h s (there m)))

pub request_below : WrittenInBytes
unfolding request_bytes
request_below rs q few h k =
    one_below (length rs) (questions_bytes rs ++ question_bytes q) (omega arith) (both_below (questions_bytes rs) (question_bytes q) (questions_below rs h) (question-below q k))
