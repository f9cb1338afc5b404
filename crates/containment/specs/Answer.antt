-- What `within` answers and leaves in the room, and what that means. Assumes nothing: these are definitions.
use Rattle.std.specs.Prelude.{◌≡◌, ℕ, Bool, cond, List, [], ◌∷◌, ◌++◌, length, drop, Some, None, Option, Ok, Err, Result, nat_lt}
use Rattle.std.specs.Option.{option_or}
use Rattle.question.specs.declared.refusals.Refusal.{Refusal}
use Rattle.question.specs.declared.refusals.Refusal.TheVariants.{NoRoomForTables}
use Rattle.question.specs.Question.{Question, Row, Base, Answers, Within}
use Rattle.question.specs.Layout.{question_in}
use Rattle.question.specs.Refusals.{number, place, told_number, told_values}
use Rattle.question.specs.Check.{cut_short, question_refusal}
use Rattle.question.specs.Tables.{tables_in}
use Rattle.containment.specs.declared.answer.Containment.{Containment}
use Rattle.containment.specs.declared.answer.Containment.TheVariants as answer
use Rattle.containment.specs.Search.{can_read}
use Rattle.containment.specs.OwnTables.{naming}
use Rattle.containment.specs.OwnNumbers.{tables_out}

-- the number of an answer: 0, or that of the refusal
abbrev pub number_of : Result Containment Refusal → ℕ
number_of (Ok a) = 0
number_of (Err e) = number e

-- the values told with it: how many numbers show it, or the refusal's place
abbrev pub values_of : Result Containment Refusal → List ℕ
values_of (Ok answer.Within) = []
values_of (Ok (answer.Apart n)) = n ∷ []
values_of (Err e) = place e ∷ []

-- the room for tables is too short
abbrev pub room_refusal : List ℕ → Option Refusal
room_refusal room = cond (nat_lt (length room) 64) (Some (NoRoomForTables (length room))) None

-- the first refusal that applies: a question cut short, then no question, then the room; of two questions the first before the second
abbrev pub within_refusal : (first second room : List ℕ) → Option Refusal
within_refusal first second room =
    option_or (cut_short first) (option_or (cut_short second) (option_or (question_refusal first) (option_or (question_refusal second) (room_refusal room))))

-- the tables that tell the first question from the second: its own, under our naming
abbrev pub shown : (first second : List ℕ) → List ℕ
shown first second = tables_out (naming (question_in first) (question_in second)) (question_in first)

-- where nothing is refused: the answer and the room, by whether the second can be read into the first
abbrev pub told_by : Bool → (first second room : List ℕ) → Result Containment Refusal × List ℕ
told_by b first second room = cond b (Ok answer.Within, room) (Ok (answer.Apart (length (shown first second))), shown first second ++ drop (length (shown first second)) room)

-- the answer, and the room after it
abbrev pub within_says : Option Refusal → (first second room : List ℕ) → Result Containment Refusal × List ℕ
within_says (Some e) first second room = (Err e, room)
within_says None first second room = told_by (can_read (question_in second) (question_in first)) first second room

-- how many numbers show it, by whether the second can be read into the first
abbrev pub size_of : Bool → (first second : List ℕ) → List ℕ
size_of b first second = cond b [] (length (shown first second) ∷ [])

-- the number and the values that an answer tells, where a call is turned away or not
pub record Numbered (r : Result Containment Refusal) (refusal : Option Refusal) (first second : List ℕ) : Type 0 where
  pub number : number_of r ≡ told_number refusal
  pub values : values_of r ≡ told_values refusal (size_of (can_read (question_in second) (question_in first)) first second)

-- from the tables, p answers a row that q does not
pub record TellsApart (b : Base) (p q : Question) : Type 0 where
  pub row : Row
  pub answered : Answers b p row
  pub not_answered : Answers b q row → ⊥

-- what an answer means: the first lies within the second; or it does not, and the numbers in the room, read as tables, show it
abbrev pub Meant : Result Containment Refusal → (first second room : List ℕ) → Type 0
Meant (Ok answer.Within) first second room = Within (question_in first) (question_in second)
Meant (Ok (answer.Apart n)) first second room = (Within (question_in first) (question_in second) → ⊥) × TellsApart (tables_in room) (question_in first) (question_in second)
Meant (Err e) first second room = within_refusal first second room ≡ Some e
