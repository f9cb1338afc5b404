-- How uses of reports are kept, up to 32. Assumes nothing: these are definitions.
use Rattle.std.specs.Prelude.{◌≡◌, ◌<◌, List, [], ◌∷◌, map, length, take, Result, MatchResult}
use Rattle.question.specs.declared.refusals.Refusal.{Refusal}
use Rattle.question.specs.declared.refusals.Refusal.TheVariants.{TooWide}
use Rattle.question.specs.Question.{Line}
use Rattle.question.specs.Layout.{line_in}
use Rattle.reports.specs.Widest.{insert_line}
use Rattle.reports.specs.declared.uses.Uses.{Uses}

-- the lines that are kept
abbrev pub lines_kept : Uses → List Line
lines_kept u = map line_in (take u.count u.lines)

-- the lines are kept, or they are more than 32
abbrev pub Keeps : Result Unit Refusal → Uses → List Line → Type 0
Keeps r u ls = MatchResult r (λ _. lines_kept u ≡ ls) (λ e. (e ≡ TooWide) × (32 < length ls))

-- lines put in one after another
unfoldable pub insert_all : (ls ms : List Line) → List Line
insert_all [] ms = ms
insert_all (l ∷ ls) ms = insert_all ls (insert_line l ms)
