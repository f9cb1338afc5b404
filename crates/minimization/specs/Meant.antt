-- What a choice of lines in numbers means. Assumes nothing: these are definitions.
use Rattle.std.specs.Prelude.{List, map, take}
use Rattle.question.specs.Question.{Line}
use Rattle.question.specs.Layout.{line_in}
use Rattle.minimization.specs.declared.chosen.Chosen.{Chosen}

-- the lines that are chosen
abbrev pub meant : Chosen → List Line
meant c = map line_in (take c.count c.lines)
