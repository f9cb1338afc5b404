-- What is proved of reports, each a statement that a function's contract names. Assumes nothing.
use Rattle.std.specs.Prelude.{◌≡◌, ℕ, ◌<◌, ◌≤◌, true, ◌&&◌, ◌↔◌, List, ◌++◌, length}
use Rattle.question.specs.Question.{Line, Question, Row, Base, Answers, In, Same}
use Rattle.question.specs.Sound.{sound}
use Rattle.containment.specs.Reading.{Reads}
use Rattle.reports.specs.Reports.{Told, fits, Shaped, AnsweredBy, all_sound}
use Rattle.reports.specs.Expand.{expand, Below, Narrow}
use Rattle.reports.specs.Widest.{OwnUse, Widest, widest, Sorted, IsTooWide}

-- the expansion answers what the reports tell
abbrev pub ExpansionCorrect : Type 0
ExpansionCorrect =
    (reports : List Question) (p : Question) (width base : ℕ) → ((l : Line) → In l p.lines → Shaped reports l) → sound p ≡ true → Narrow width reports → Below base p.lines →
    (b : Base) (r : Row) → Told b reports p r ↔ Answers b (expand reports width base p) r

-- a question over reports is right exactly if the question and the expansion can be read into each other
abbrev pub RightExact : Type 0
RightExact =
    (reports : List Question) (q p : Question) (width base : ℕ) → ((l : Line) → In l p.lines → Shaped reports l) → (sound p && fits reports p.lines) ≡ true → Narrow width reports → Below base p.lines →
    AnsweredBy reports q p ↔ (Reads q (expand reports width base p) × Reads (expand reports width base p) q)

-- the reports can answer a question exactly if the widest question over them does
abbrev pub ByTheWidest : Type 0
ByTheWidest =
    (reports : List Question) (q w : Question) → Widest reports q w →
    ((p : Question) × AnsweredBy reports q p) ↔ AnsweredBy reports q w

-- the widest question as it is made is the widest, in order and each line once
abbrev pub WidestMade : Type 0
WidestMade = (reports : List Question) (q : Question) → all_sound reports ≡ true → Widest reports q (widest reports q) × Sorted (widest reports q).lines

-- there are 33 different uses exactly if the widest question has more than 32 lines
abbrev pub TooWideExact : Type 0
TooWideExact = (reports : List Question) (q : Question) → all_sound reports ≡ true → IsTooWide reports q ↔ (32 < length (widest reports q).lines)

-- if the reports can answer a question at all, they can with no more uses of reports than the question has lines, all of them lines of the widest question
abbrev pub FewUses : Type 0
FewUses =
    (reports : List Question) (q p : Question) → sound q ≡ true → AnsweredBy reports q p →
    (o : Question) × AnsweredBy reports q o × (length o.lines ≤ length q.lines) × ((l : Line) → In l o.lines → OwnUse reports q l)

-- with more reports, what was right is right
abbrev pub StillRight : Type 0
StillRight = (reports more : List Question) (q p : Question) → AnsweredBy reports q p → AnsweredBy (reports ++ more) q p

-- questions that say the same are answered by the same questions over reports
abbrev pub SameReports : Type 0
SameReports = (reports : List Question) (q p o : Question) → Same q p → AnsweredBy reports q o → AnsweredBy reports p o
