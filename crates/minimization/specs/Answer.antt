-- What making a question least answers and leaves, case by case, and what that means. Assumes nothing: these are definitions.
use Rattle.std.specs.Prelude.{◌≡◌, ℕ, ◌<◌, cond, List, [], ◌∷◌, ◌++◌, length, drop, Some, None, Option, Ok, Err, Result, nat_lt}
use Rattle.std.specs.Option.{option_or}
use Rattle.question.specs.declared.refusals.Refusal.{Refusal}
use Rattle.question.specs.declared.refusals.Refusal.TheVariants.{NoRoomForQuestion}
use Rattle.question.specs.Layout.{question_in, question_out}
use Rattle.question.specs.Refusals.{number, place, told_number, told_values}
use Rattle.question.specs.Check.{question_refusal, IsQuestion}
use Rattle.minimization.specs.Least.{Least, least}

-- how a call is turned away: as its question is (1, 2), else for want of room (4)
unfoldable pub least_refusal : (question out : List ℕ) → Option Refusal
least_refusal question out = option_or (question_refusal question) (cond (nat_lt (length out) 50) (Some (NoRoomForQuestion (length out))) None)

-- what is answered where a call is turned away or not, and n lines are least
abbrev pub answer_of : Option Refusal → (n : ℕ) → Result ℕ Refusal
answer_of None n = Ok n
answer_of (Some e) n = Err e

-- the number of an answer: 0, or that of the refusal
abbrev pub number_of : Result ℕ Refusal → ℕ
number_of (Ok n) = 0
number_of (Err e) = number e

-- the values told with it: how many lines are least, or the refusal's place
abbrev pub values_of : Result ℕ Refusal → List ℕ
values_of (Ok n) = n ∷ []
values_of (Err e) = place e ∷ []

-- the number and the values that an answer tells, where a call is turned away or not, and n lines are least
pub record Numbered (r : Result ℕ Refusal) (refusal : Option Refusal) (n : ℕ) : Type 0 where
  pub number : number_of r ≡ told_number refusal
  pub values : values_of r ≡ told_values refusal (n ∷ [])

-- what is answered
unfoldable pub least_says : (question out : List ℕ) → Result ℕ Refusal
least_says question out = answer_of (least_refusal question out) (length (least (question_in question)).lines)

-- what lies in out where a call is turned away or not
abbrev pub left_by : Option Refusal → (written out : List ℕ) → List ℕ
left_by None written out = written
left_by (Some e) written out = out

-- what lies in out afterwards: the least question in its first fifty numbers, unless the call is turned away
unfoldable pub least_leaves : (question out : List ℕ) → List ℕ
least_leaves question out = left_by (least_refusal question out) (question_out (least (question_in question)) ++ drop 50 out) out

-- in out there is a question that may be asked, the least one as it is defined; it is a least one for the question (core), and has n lines
pub record LeastStands (question out : List ℕ) (n : ℕ) : Type 0 where
  pub reads_back : question_in out ≡ least (question_in question)
  pub is_least : Least (question_in question) (question_in out)
  pub is_question : IsQuestion out
  pub count : n ≡ length (question_in out).lines

-- out is as it was, and the question may not be asked or there is no room
pub record TurnedAway (question before out : List ℕ) : Type 0 where
  pub same : out ≡ before
  pub why : IsQuestion question → length before < 50

-- a least question stands in out, or the call is turned away
unfoldable pub MeantLeast : (question before out : List ℕ) → Result ℕ Refusal → Type 0
MeantLeast question before out (Ok n) = LeastStands question out n
MeantLeast question before out (Err e) = TurnedAway question before out
