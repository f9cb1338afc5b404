-- What is proved of finding the fewest uses, each a statement that a function's contract names. Assumes nothing.
use Rattle.std.specs.Prelude.{◌≡◌, ℕ, ◌≤◌, true, ◌↔◌, List, ◌++◌, length, is_some, Some, None, Option}
use Rattle.question.specs.Question.{Line, Question, In}
use Rattle.question.specs.Sound.{sound, Allowed}
use Rattle.reports.specs.Reports.{AnsweredBy, all_sound}
use Rattle.reports.specs.Expand.{Below, Narrow}
use Rattle.reports.specs.Widest.{OwnUse, widest}
use Rattle.rewriting.specs.Found.{Found, First, over_lines, will_do, find}

-- the main promise: for any sound reports and any sound question there is an answer
abbrev pub AlwaysFound : Type 0
AlwaysFound = (reports : List Question) (q : Question) → all_sound reports ≡ true → sound q ≡ true → (out : Option Question) × Found reports q out

-- what is found is that answer, where reports have variables below width and the question below base
abbrev pub FindRight : Type 0
FindRight =
    (reports : List Question) (q : Question) (width base : ℕ) → all_sound reports ≡ true → sound q ≡ true → Narrow width reports → Below base q.lines →
    Found reports q (find reports width base q)

-- and of the answers that are choices of the widest question's lines it is the first, line by line
abbrev pub FindFirst : Type 0
FindFirst =
    (reports : List Question) (q p : Question) (width base : ℕ) → all_sound reports ≡ true → sound q ≡ true → Narrow width reports → Below base q.lines →
    find reports width base q ≡ Some p → First reports q p

-- the same for what may be asked: sixteen variables, so that a use's new variables are 16, 32, 48 or 64 on
abbrev pub FindAllowed : Type 0
FindAllowed =
    (reports : List Question) (q : Question) → ((r : Question) → In r reports → Allowed r) → Allowed q →
    Found reports q (find reports 16 16 q) × ((p : Question) → find reports 16 16 q ≡ Some p → First reports q p)

-- uses that reports have on the question's own lines are right exactly if they will do: one reading decides
abbrev pub WillDoExact : Type 0
WillDoExact =
    (reports : List Question) (q : Question) (width base : ℕ) (ls : List Line) → all_sound reports ≡ true → sound q ≡ true → Narrow width reports → Below base q.lines →
    ((l : Line) → In l ls → OwnUse reports q l) → (will_do reports width base q ls ≡ true) ↔ AnsweredBy reports q (over_lines q ls)

-- something is found exactly if the widest question will do
abbrev pub FoundByWidest : Type 0
FoundByWidest =
    (reports : List Question) (q : Question) (width base : ℕ) → all_sound reports ≡ true → sound q ≡ true → Narrow width reports → Below base q.lines →
    is_some (find reports width base q) ≡ will_do reports width base q (widest reports q).lines

-- more reports never need more uses: what could be answered still can, with no more uses
abbrev pub MoreReports : Type 0
MoreReports =
    (reports more : List Question) (q p : Question) → Found reports q (Some p) →
    ((o : Question) → Found (reports ++ more) q (Some o) → length o.lines ≤ length p.lines) × (Found (reports ++ more) q None → ⊥)
