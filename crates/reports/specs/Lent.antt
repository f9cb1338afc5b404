-- What the parts of lent reports are, and the lines that uses of them stand for. Assumes nothing: these are definitions.
use Rattle.std.specs.Prelude.{List, map}
use Rattle.question.specs.Question.{Line, Question}
use Rattle.question.specs.Layout.{line_in, question_in}
use Rattle.reports.specs.declared.checked.Reports.{Reports}
use Rattle.reports.specs.declared.expanded.Expanded.{Expanded}

-- the reports that are still to come
abbrev pub reports_of : Reports → List Question
reports_of s = map question_in s.left.now

-- the lines that uses stand for
abbrev pub expanded_lines : Expanded → List Line
expanded_lines s = map line_in s.lines.items
