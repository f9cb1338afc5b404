-- The text of an answer says what the answer means.
use Rattle.std.proofs.Common.{◌≡◌, ℕ, ◌+◌, ◌*◌, ◌<◌, true, ◌⊎◌, List, [], ◌++◌, length, get_or, drop, replicate, sym, refl, ap, ◌∙◌, subst, inl, inr, append-nil, Ok, Err, Result}
use Rattle.question.specs.declared.refusals.Refusal.{Refusal}
use Rattle.question.specs.declared.refusals.Refusal.TheVariants.{CutShort, NoQuestion, NoReport, NoRoomForQuestion, TooWide, NoRoomForRow, TableTooLarge, NoRoomForTables, NoMemory}
use Rattle.question.specs.Question.{Question, Row, Base, In, Answers}
use Rattle.question.specs.Layout.{question_in}
use Rattle.question.specs.Tables.{rows_in, tables_in}
use Rattle.question.proofs.Decoding.{length-terms_in}
use Rattle.wire.specs.Tables.{table_text}
use Rattle.answer.specs.Answered.{Lower, Among, BehindAll, FirstRows, AllRows, NoRoom, Meant}
use Rattle.rows_from_files.specs.Rooms.{largest, no_room, InRoom}
use Rattle.rows_from_files.specs.Printed.{refusal_text, answer_text, RowsInOrder, AllPrinted, FirstPrinted, Printed}
use Rattle.rows_from_files.proofs.Listed.{length-rows, among_listed, each-listed, rising-listed}

-- the row of a lent question is as wide as its count says
row_wide : (question : List ℕ) → length (question_in question).row ≡ get_or question 0 0
unfolding question_in
row_wide question = length-terms_in (get_or question 0 0) (drop 1 question)

module _ (b : Base) (q : Question) (before out : List ℕ) (n : ℕ) where
  abbrev w : ℕ
  w = length q.row

  abbrev rows : List Row
  rows = rows_in n w out

  in_order : FirstRows b q before out n → RowsInOrder b q rows
  in_order s = record { answered = each-listed (Answers b q) n w out s.answered; rising = rising-listed w n w out s.rising }

  all_told : AllRows b q before out n → (text : List ℕ) → text ≡ table_text rows ++ [] → AllPrinted b q text
  all_told s text e = record { rows = rows; right = in_order s.stand; all = λ r a. among_listed n w out r (s.all r a); is = e ∙ append-nil (table_text rows) }

  behind-listed : (r : Row) → BehindAll w n out r → (s : Row) → In s rows → Lower w s r
  behind-listed r h = each-listed (λ (s : Row). Lower w s r) n w out h

  first-listed : (r : Row) → Among w n out r ⊎ BehindAll w n out r → In r rows ⊎ ((s : Row) → In s rows → Lower w s r)
  first-listed r (inl a) = inl (among_listed n w out r a)
  first-listed r (inr h) = inr (behind-listed r h)

  first-told : NoRoom b q before out n → length out ≡ largest → (text : List ℕ) → text ≡ table_text rows ++ refusal_text (NoRoomForRow n) → FirstPrinted b q text
  first-told s l text e = record {
    rows = rows;
    right = in_order s.stand;
    first = λ r a. first-listed r (s.stand.first r a);
    next = s.next;
    answered = s.answered;
    behind = behind-listed s.next s.behind;
    short = subst (λ (k : ℕ). largest < (k + 1) * w) (sym (length-rows n w out)) (subst (λ (k : ℕ). k < (n + 1) * w) l s.short);
    is = e ∙ ap (λ (k : ℕ). table_text rows ++ refusal_text (NoRoomForRow k)) (sym (length-rows n w out));
  }

-- what is printed for an answer in its room
pub told : (question tables out : List ℕ) (a : Result ℕ Refusal) (text : List ℕ) → InRoom question tables out a → text ≡ answer_text (get_or question 0 0) out a → Printed question tables text
unfolding Meant table_text rows_in
told question tables out a text h e = by-case a h.meant h.room (rw (row_wide question) e)
  where
    by-case : (a : Result ℕ Refusal) → Meant question tables (replicate (length out) 0) out a → (no_room a ≡ true → length out ≡ largest)
        → text ≡ answer_text (length (question_in question).row) out a → Printed question tables text
    by-case (Ok n) m l e = Printed.all_rows m.0 (all_told (tables_in tables) (question_in question) (replicate (length out) 0) out n m.1 text e)
    by-case (Err (NoRoomForRow n)) m l e = Printed.first_rows m.0 (first-told (tables_in tables) (question_in question) (replicate (length out) 0) out n m.1 (l refl) text e)
    by-case (Err (CutShort n)) m l e = Printed.turned_away (CutShort n) m.0 e
    by-case (Err (NoQuestion n)) m l e = Printed.turned_away (NoQuestion n) m.0 e
    by-case (Err (TableTooLarge n)) m l e = Printed.turned_away (TableTooLarge n) m.0 e
    by-case (Err NoMemory) m l e = Printed.no_memory m.0 e
    by-case (Err (NoReport n)) m l e = absurd m
    by-case (Err (NoRoomForQuestion n)) m l e = absurd m
    by-case (Err TooWide) m l e = absurd m
    by-case (Err (NoRoomForTables n)) m l e = absurd m
