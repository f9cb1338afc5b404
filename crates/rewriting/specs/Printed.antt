-- The line that an answer is printed as. Assumes nothing: these are definitions.
use Rattle.std.specs.Prelude.{ℕ, List}
use Rattle.question.specs.Layout.{question_in}
use Rattle.rewriting.specs.declared.line.FoundLine.{FoundLine}
use Rattle.rewriting.specs.Texts.{reply_text}

-- its bytes
abbrev pub line_text : FoundLine → List ℕ
line_text l = reply_text l.reply (question_in l.found)
