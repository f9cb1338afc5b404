-- What finding the fewest uses answers and leaves, case by case, and what that means. Assumes nothing: these are definitions.
use Rattle.std.specs.Prelude.{◌≡◌, ℕ, cond, List, [], ◌∷◌, ◌++◌, length, drop, replicate, Some, None, Option, Ok, Err, Result, nat_lt}
use Rattle.std.specs.Option.{option_or}
use Rattle.question.specs.declared.refusals.Refusal.{Refusal}
use Rattle.question.specs.declared.refusals.Refusal.TheVariants.{NoRoomForQuestion, TooWide}
use Rattle.question.specs.Refusals.{number, place, told_number, told_values}
use Rattle.question.specs.Question.{Question}
use Rattle.question.specs.Layout.{question_in, question_out}
use Rattle.question.specs.Reports.{reports_in}
use Rattle.question.specs.Check.{IsQuestion}
use Rattle.reports.specs.Check.{reports_refusal, Asked}
use Rattle.reports.specs.Widest.{widest, IsTooWide}
use Rattle.rewriting.specs.declared.reply.Reply.{Reply}
use Rattle.rewriting.specs.declared.reply.Reply.TheVariants.{By, Impossible, Refused}
use Rattle.rewriting.specs.Found.{Found, First, find}
use Rattle.rewriting.specs.Texts.{reply_text}

-- the number of an answer: 0, or that of the refusal
abbrev pub number_of : Reply → ℕ
number_of (By n) = 0
number_of Impossible = 0
number_of (Refused e) = number e

-- the values told with it: how many uses it takes, or the refusal's place
abbrev pub values_of : Reply → List ℕ
values_of (By n) = n ∷ []
values_of Impossible = []
values_of (Refused e) = place e ∷ []

-- the room for the question that is found is too short
abbrev pub room_refusal : List ℕ → Option Refusal
room_refusal out = cond (nat_lt (length out) 50) (Some (NoRoomForQuestion (length out))) None

-- the widest question has more lines than are tried
abbrev pub wide_refusal : List Question → Question → Option Refusal
wide_refusal reports q = cond (nat_lt 32 (length (widest reports q).lines)) (Some TooWide) None

-- the first refusal that applies: as the question and the reports are turned away (1, 1, 2, 3), then for want of room (4), then for too many uses (5)
unfoldable pub find_refusal : (question reports out : List ℕ) → Option Refusal
find_refusal question reports out = option_or (reports_refusal question reports) (option_or (room_refusal out) (wide_refusal (reports_in reports) (question_in question)))

-- the answer, as uses that are found or none, or a refusal
abbrev pub reply_of : Result (Option ℕ) Refusal → Reply
reply_of (Ok None) = Impossible
reply_of (Ok (Some n)) = By n
reply_of (Err e) = Refused e

-- what is answered where a question is found or none, and what then lies in out: it, in the first fifty numbers
abbrev pub told_by : Option Question → Reply
told_by None = Impossible
told_by (Some p) = By (length p.lines)

abbrev pub left_by : Option Question → List ℕ → List ℕ
left_by None out = out
left_by (Some p) out = question_out p ++ drop 50 out

-- the same where a call is turned away or not
abbrev pub answer_of : Option Refusal → Option Question → Reply
answer_of None found = told_by found
answer_of (Some e) found = Refused e

abbrev pub left_after : Option Refusal → Option Question → List ℕ → List ℕ
left_after None found out = left_by found out
left_after (Some e) found out = out

-- how many uses what is found has
abbrev pub uses_of : Option Question → List ℕ
uses_of None = []
uses_of (Some p) = length p.lines ∷ []

-- the number and the values that an answer tells, where a call is turned away or not
pub record Numbered (r : Reply) (refusal : Option Refusal) (found : Option Question) : Type 0 where
  pub number : number_of r ≡ told_number refusal
  pub values : values_of r ≡ told_values refusal (uses_of found)

-- what is answered
unfoldable pub find_says : (question reports out : List ℕ) → Reply
find_says question reports out = answer_of (find_refusal question reports out) (find (reports_in reports) 16 16 (question_in question))

-- what lies in out afterwards
unfoldable pub find_leaves : (question reports out : List ℕ) → List ℕ
find_leaves question reports out = left_after (find_refusal question reports out) (find (reports_in reports) 16 16 (question_in question)) out

-- in out there is a question that may be asked and has n lines, the one that is found as that is defined; over the reports it is right with as few lines as any, and it is the first such choice
pub record Stands (question reports out : List ℕ) (n : ℕ) : Type 0 where
  pub asked : Asked (question_in question) (reports_in reports)
  pub reads_back : find (reports_in reports) 16 16 (question_in question) ≡ Some (question_in out)
  pub found : Found (reports_in reports) (question_in question) (Some (question_in out))
  pub first : First (reports_in reports) (question_in question) (question_in out)
  pub is_question : IsQuestion out
  pub count : n ≡ length (question_in out).lines

-- out is as it was, and no question over the reports is right
pub record NoneRight (question reports before out : List ℕ) : Type 0 where
  pub same : out ≡ before
  pub asked : Asked (question_in question) (reports_in reports)
  pub none : Found (reports_in reports) (question_in question) None

-- out is as it was; too wide is told only of 33 different uses of the reports on the question's own lines
pub record TurnedAway (question reports before out : List ℕ) (e : Refusal) : Type 0 where
  pub same : out ≡ before
  pub why : find_refusal question reports before ≡ Some e
  pub wide : e ≡ TooWide → IsTooWide (reports_in reports) (question_in question)

-- what an answer means
unfoldable pub Meant : (question reports before out : List ℕ) → Reply → Type 0
Meant question reports before out (By n) = Stands question reports out n
Meant question reports before out Impossible = NoneRight question reports before out
Meant question reports before out (Refused e) = TurnedAway question reports before out e

-- what is printed for a request: what is answered where the room for what is found is fifty numbers
unfoldable pub printed : (question reports : List ℕ) → List ℕ
printed question reports = reply_text (find_says question reports (replicate 50 0)) (question_in (find_leaves question reports (replicate 50 0)))
