-- The line that is printed for a request: by 2: R0 x0 x2, R1 x0 x3. Assumes nothing: these are definitions.
use Rattle.std.specs.Prelude.{ℕ, List, [], ◌∷◌, ◌++◌, length, codes, decimal}
use Rattle.question.specs.declared.terms.Term.{Term}
use Rattle.question.specs.Refusals.{refusal_line}
use Rattle.question.specs.Question.{Line, Question}
use Rattle.question.specs.Texts.{term_text}
use Rattle.rewriting.specs.declared.reply.Reply.{Reply}
use Rattle.rewriting.specs.declared.reply.Reply.TheVariants.{By, Impossible, Refused}

-- terms, each behind a blank
unfoldable pub terms_text : List Term → List ℕ
terms_text [] = []
terms_text (t ∷ ts) = (codes " " ++ term_text t) ++ terms_text ts

-- a use of a report: its number and its terms
abbrev pub use_text : Line → List ℕ
use_text l = (codes " R" ++ decimal l.table) ++ terms_text l.cells

-- uses behind the first, each behind a comma
unfoldable pub more_uses_text : List Line → List ℕ
more_uses_text [] = []
more_uses_text (l ∷ ls) = (codes "," ++ use_text l) ++ more_uses_text ls

abbrev pub uses_text : List Line → List ℕ
uses_text [] = []
uses_text (l ∷ ls) = use_text l ++ more_uses_text ls

-- a question over reports: how many uses, and each
abbrev pub found_text : Question → List ℕ
found_text p = ((codes "by " ++ decimal (length p.lines)) ++ codes ":") ++ uses_text p.lines

-- what is printed for an answer: a question over reports, none, or the refusal
abbrev pub reply_text : Reply → Question → List ℕ
reply_text (By n) p = found_text p
reply_text Impossible p = codes "none"
reply_text (Refused e) p = refusal_line e
