-- In which room the rows are answered. Assumes nothing: these are definitions.
use Rattle.std.specs.Prelude.{◌≡◌, ℕ, Bool, true, false, List, length, replicate, Ok, Err, Result}
use Rattle.question.specs.declared.refusals.Refusal.TheVariants.{CutShort, NoQuestion, NoReport, NoRoomForQuestion, TooWide, NoRoomForRow, TableTooLarge, NoRoomForTables, NoMemory}
use Rattle.question.specs.declared.refusals.Refusal.{Refusal}
use Rattle.answer.specs.Answered.{Meant}

-- there was no room for the next row
abbrev pub no_room : Result ℕ Refusal → Bool
no_room (Ok n) = false
no_room (Err (CutShort n)) = false
no_room (Err (NoQuestion n)) = false
no_room (Err (NoReport n)) = false
no_room (Err (NoRoomForQuestion n)) = false
no_room (Err TooWide) = false
no_room (Err (NoRoomForRow n)) = true
no_room (Err (TableTooLarge n)) = false
no_room (Err (NoRoomForTables n)) = false
no_room (Err NoMemory) = false

-- a room of 2 ^ 24 numbers, the largest that is taken
abbrev pub largest : ℕ
largest = 16777216

-- the answer in a room of zeros, where want of room is told of the largest one alone
pub record InRoom (question tables out : List ℕ) (a : Result ℕ Refusal) : Type 0 where
  pub meant : Meant question tables (replicate (length out) 0) out a
  pub room : no_room a ≡ true → length out ≡ largest
