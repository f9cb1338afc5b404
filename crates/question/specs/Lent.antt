-- What the parts of a lent question are: its terms, its lines and itself. Assumes nothing: these are definitions.
use Rattle.std.specs.Prelude.{ℕ, List, map}
use Rattle.question.specs.declared.terms.Term.{Term}
use Rattle.question.specs.declared.terms.Terms.{Terms}
use Rattle.question.specs.declared.lines.Line as lent
use Rattle.question.specs.declared.lines.Lines.{Lines}
use Rattle.question.specs.declared.lent.Question as lent_question
use Rattle.question.specs.Question.{Line, Question}
use Rattle.question.specs.Layout.{pair_term, line_in, question_in}

-- the terms that are still to come
abbrev pub terms_of : {limit : ℕ} → Terms limit → List Term
terms_of s = map pair_term s.left.now

-- the line
abbrev pub line_of : {limit : ℕ} → lent.Line limit → Line
line_of s = line_in s.numbers.now

-- the lines that are still to come
abbrev pub lines_of : {limit : ℕ} → Lines limit → List Line
lines_of s = map line_in s.left.now

-- the question
abbrev pub question_of : lent_question.Question → Question
question_of s = question_in s.numbers.now
