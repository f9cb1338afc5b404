-- The text of a term, as bytes. Assumes nothing: these are definitions.
use Rattle.std.specs.Prelude.{ℕ, List, ◌++◌, codes, decimal}
use Rattle.question.specs.declared.terms.Term.{Term}
use Rattle.question.specs.declared.terms.Term.TheVariants.{Number, Variable}

-- a number as its digits, a variable as x0, x1 and so on
abbrev pub term_text : Term → List ℕ
term_text (Number n) = decimal n
term_text (Variable x) = codes "x" ++ decimal x
