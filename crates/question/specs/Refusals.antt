-- The number and the place that each refusal stands for. Assumes nothing: these are definitions.
use Rattle.std.specs.Prelude.{ℕ, List, [], ◌∷◌, ◌++◌, Some, None, codes, decimal, Option}
use Rattle.question.specs.declared.refusals.Refusal.{Refusal}
use Rattle.question.specs.declared.refusals.Refusal.TheVariants.{CutShort, NoQuestion, NoReport, NoRoomForQuestion, TooWide, NoRoomForRow, TableTooLarge, NoRoomForTables, NoMemory}

abbrev pub number : Refusal → ℕ
number (CutShort p) = 1
number (NoQuestion p) = 2
number (NoReport p) = 3
number (NoRoomForQuestion p) = 4
number TooWide = 5
number (NoRoomForRow p) = 6
number (TableTooLarge p) = 7
number (NoRoomForTables p) = 8
number NoMemory = 9

abbrev pub place : Refusal → ℕ
place (CutShort p) = p
place (NoQuestion p) = p
place (NoReport p) = p
place (NoRoomForQuestion p) = p
place TooWide = 33
place (NoRoomForRow p) = p
place (TableTooLarge p) = p
place (NoRoomForTables p) = p
place NoMemory = 0

-- the number that a call tells: 0 where it is not turned away
abbrev pub told_number : Option Refusal → ℕ
told_number None = 0
told_number (Some e) = number e

-- the values told with it: those of the answer, or the refusal's place
abbrev pub told_values : Option Refusal → List ℕ → List ℕ
told_values None values = values
told_values (Some e) values = place e ∷ []

-- the line that a program prints, as bytes: refused 2 at 4
abbrev pub refusal_line : Refusal → List ℕ
refusal_line e = (codes "refused " ++ decimal (number e)) ++ (codes " at " ++ decimal (place e))
