-- Questions worked out over three reports, in one table. Assumes nothing: these are definitions.
use Rattle.std.specs.Prelude.{◌≡◌, ℕ, zero, suc, List, [], ◌∷◌, Some, None, Option}
use Rattle.question.specs.declared.terms.Term.{Term}
use Rattle.question.specs.declared.terms.Term.TheVariants.{Number, Variable}
use Rattle.question.specs.Question.{Line, Question, Base, all_at, Answers, In, Within}
use Rattle.containment.specs.OwnTables.{own_tables, Shown, naming}
use Rattle.minimization.specs.Least.{least}
use Rattle.reports.specs.Widest.{widest}
use Rattle.rewriting.specs.Found.{Found, find}

-- a line of table t, and a use of report t
abbrev pub line : ℕ → List Term → Line
line t cs = record { table = t; cells = cs }

abbrev pub ask : List Term → List Line → Question
ask r ls = record { row = r; lines = ls }

abbrev pub x0 : Term
x0 = Variable 0

abbrev pub x1 : Term
x1 = Variable 1

abbrev pub x2 : Term
x2 = Variable 2

abbrev pub x3 : Term
x3 = Variable 3

abbrev pub x4 : Term
x4 = Variable 4

-- table 0 has ship and berth, table 1 ship and holder, table 2 ship and goods
abbrev pub three : List Question
three =
    ask (x0 ∷ x2 ∷ []) (line 0 (x0 ∷ x1 ∷ []) ∷ line 1 (x0 ∷ x2 ∷ []) ∷ [])
    ∷ ask (x0 ∷ x1 ∷ []) (line 2 (x0 ∷ x1 ∷ []) ∷ line 1 (x0 ∷ x2 ∷ []) ∷ [])
    ∷ ask (x1 ∷ x0 ∷ []) (line 0 (x0 ∷ x1 ∷ []) ∷ [])
    ∷ []

-- a row of the table: a question, the lines of the widest question over the reports, and the lines that are found
pub record Worked : Type 0 where
  pub question : Question
  pub wide : List Line
  pub uses : Option (List Line)

abbrev pub fourth : Question
fourth = ask (x0 ∷ []) (line 0 (x0 ∷ x1 ∷ []) ∷ line 0 (x0 ∷ x2 ∷ []) ∷ line 1 (x0 ∷ x3 ∷ []) ∷ [])

abbrev pub worked : List Worked
worked =
    record {
      question = ask (x2 ∷ x3 ∷ []) (line 0 (x0 ∷ x1 ∷ []) ∷ line 1 (x0 ∷ x2 ∷ []) ∷ line 2 (x0 ∷ x3 ∷ []) ∷ []);
      wide = line 0 (x0 ∷ x2 ∷ []) ∷ line 1 (x0 ∷ x3 ∷ []) ∷ line 2 (x1 ∷ x0 ∷ []) ∷ [];
      uses = Some (line 0 (x0 ∷ x2 ∷ []) ∷ line 1 (x0 ∷ x3 ∷ []) ∷ []);
    }
    ∷ record {
      question = ask (x3 ∷ x1 ∷ []) (line 0 (x0 ∷ x1 ∷ []) ∷ line 2 (x0 ∷ x3 ∷ []) ∷ []);
      wide = line 2 (x1 ∷ x0 ∷ []) ∷ [];
      uses = None;
    }
    ∷ record {
      question = ask (x2 ∷ []) (line 0 (x0 ∷ Number 7 ∷ []) ∷ line 1 (x0 ∷ x2 ∷ []) ∷ []);
      wide = line 0 (x0 ∷ x2 ∷ []) ∷ line 2 (Number 7 ∷ x0 ∷ []) ∷ [];
      uses = Some (line 0 (x0 ∷ x2 ∷ []) ∷ line 2 (Number 7 ∷ x0 ∷ []) ∷ []);
    }
    ∷ record {
      question = fourth;
      wide = line 0 (x0 ∷ x3 ∷ []) ∷ line 2 (x1 ∷ x0 ∷ []) ∷ line 2 (x2 ∷ x0 ∷ []) ∷ [];
      uses = Some (line 0 (x0 ∷ x3 ∷ []) ∷ []);
    }
    ∷ record {
      question = ask (x0 ∷ x2 ∷ []) (line 1 (x0 ∷ x2 ∷ []) ∷ []);
      wide = [];
      uses = None;
    }
    ∷ record {
      question = ask (x0 ∷ x4 ∷ []) (line 0 (x0 ∷ x1 ∷ []) ∷ line 0 (x4 ∷ x1 ∷ []) ∷ []);
      wide = line 2 (x1 ∷ x0 ∷ []) ∷ line 2 (x1 ∷ x4 ∷ []) ∷ [];
      uses = Some (line 2 (x1 ∷ x0 ∷ []) ∷ line 2 (x1 ∷ x4 ∷ []) ∷ []);
    }
    ∷ []

-- the question that a row finds
abbrev pub found_of : Question → Option (List Line) → Option Question
found_of q None = None
found_of q (Some ls) = Some (ask q.row ls)

-- what a row says
pub record Holds (w : Worked) : Type 0 where
  pub wide : (widest three w.question).lines ≡ w.wide
  pub finds : find three 16 16 w.question ≡ found_of w.question w.uses
  pub right : Found three w.question (found_of w.question w.uses)

-- every row of the table holds
abbrev pub AllHold : Type 0
AllHold = (w : Worked) → In w worked → Holds w

-- what the fourth question lies within
abbrev pub holders : Question
holders = ask (x0 ∷ []) (line 1 (x0 ∷ x3 ∷ []) ∷ [])

-- tables that hold only the row 1 2, in table 1
abbrev pub one_holder : Base
one_holder zero = []
one_holder (suc zero) = (1 ∷ 2 ∷ []) ∷ []
one_holder (suc (suc t)) = []

-- the fourth question: its least form; it lies within the other, and not the other way round, which the other's own tables show: the row 1 2 in table 1
pub record Fourth : Type 0 where
  pub least_form : least fourth ≡ ask (x0 ∷ []) (line 0 (x0 ∷ x1 ∷ []) ∷ line 1 (x0 ∷ x3 ∷ []) ∷ [])
  pub lies_within : Within fourth holders
  pub own_rows : (t : ℕ) → own_tables (naming holders fourth) holders t ≡ one_holder t
  pub own_row : all_at (naming holders fourth) holders.row ≡ 1 ∷ []
  pub holder_answers : Answers one_holder holders (1 ∷ [])
  pub fourth_does_not : Answers one_holder fourth (1 ∷ []) → ⊥
  pub shown : Shown (naming holders fourth) holders fourth
  pub not_within : Within holders fourth → ⊥
