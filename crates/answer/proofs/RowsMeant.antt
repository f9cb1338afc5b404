-- Rows that the join puts out, as rows that a question answers.
use Rattle.std.proofs.Common.{◌≡◌, ℕ, suc, ◌+◌, ◌-◌, ◌*◌, ◌<◌, ◌≤◌, ◌⊎◌, List, [], ◌∷◌, map, length, get_or, drop, None, Ok, Err, Result, sym, refl, ap, ◌∙◌, subst, inl, inr, mul-le-mul_right, arith}
use Rattle.std.specs.List.{range_with_len}
use Rattle.std.proofs.lemmas.List.FromFn.{length-map-range_with_len, get_or-map-range_with_len}
use Rattle.std.proofs.lemmas.List.{length-take-le, length-drop, get_or-take, get_or-drop, ext_get_or}
use Rattle.question.specs.Question.{Question, Row, Base, Answers}
use Rattle.question.specs.declared.terms.Term.{Term}
use Rattle.question.proofs.Front.{length-all_at}
use Rattle.join.specs.Order.{Value, Before, cells}
use Rattle.join.specs.RowsOut as join
use Rattle.answer.specs.Plan.{Plan, Planned, places}
use Rattle.answer.specs.Laws.{asked_by, Copied}
use Rattle.question.specs.declared.refusals.Refusal.{Refusal}
use Rattle.question.specs.declared.refusals.Refusal.TheVariants.{CutShort, NoQuestion, NoReport, NoRoomForQuestion, TooWide, NoRoomForRow, TableTooLarge, NoRoomForTables, NoMemory}
use Rattle.question.specs.Layout.{question_in}
use Rattle.question.specs.Tables.{tables_in}
use Rattle.answer.specs.Answered.{answer_refusal, row_in, Among, BehindAll, FirstRows, AllRows, NoRoom, RowsOut, Meant}
use Rattle.answer.proofs.ByPlan.{plan_answers}

length-places : (place : Term → ℕ) (ts : List Term) → length (places place ts) ≡ length ts
unfolding places
length-places place [] = refl
length-places place (t ∷ ts) = ap suc (length-places place ts)

row-cell : (w i : ℕ) (out : List ℕ) (c : ℕ) → c < w → cells (row_in w i out) c ≡ join.row_of out w i c
row-cell w i out c h = get_or-take w (drop (i * w) out) c 0 h ∙ get_or-drop (i * w) out c 0

length-row : (w i : ℕ) (out : List ℕ) → (i + 1) * w ≤ length out → length (row_in w i out) ≡ w
length-row w i out h = length-take-le w (drop (i * w) out) (simp length-drop (omega arith))

-- a row at a place, told cell by cell
row_is : (w i : ℕ) (out : List ℕ) (r : Row) → (i + 1) * w ≤ length out → length r ≡ w → ((c : ℕ) → c < w → join.row_of out w i c ≡ cells r c) → row_in w i out ≡ r
row_is w i out r room len h = ext_get_or 0 (row_in w i out) r (length-row w i out room ∙ sym len) (λ c l. let d : c < w = omega (arith, length-row w i out room) in row-cell w i out c d ∙ h c d)

-- what is said of rows by their cells is said of any with the same
before_alike : (w : ℕ) (a b x y : Value) → ((c : ℕ) → c < w → x c ≡ a c) → ((c : ℕ) → c < w → y c ≡ b c) → Before w a b → Before w x y
before_alike w a b x y f g h = record {
  place = h.place;
  inside = h.inside;
  same = λ i l. let m : i < w = omega (arith, l, h.inside) in f i m ∙ h.same i l ∙ sym (g i m);
  less = let e = f h.place h.inside in let d = g h.place h.inside in omega (arith, e, d, h.less);
}

answered_alike : (q : join.Asked) (a x : Value) → ((c : ℕ) → c < length q.row → x c ≡ a c) → join.Answered q a → join.Answered q x
answered_alike q a x f h = record { value = h.value; agree = h.agree; stand = h.stand; is = λ c l. f c l ∙ h.is c l }

-- what is the same behind a place
same-behind : (n : ℕ) (before out : List ℕ) → length out ≡ length before → ((p : ℕ) → n ≤ p → get_or out p 0 ≡ get_or before p 0) → drop n out ≡ drop n before
same-behind n before out e h = ext_get_or 0 (drop n out) (drop n before) (length-drop n out ∙ ap (λ (k : ℕ). k - n) e ∙ sym (length-drop n before)) (λ c l. get_or-drop n out c 0 ∙ h (n + c) (omega arith) ∙ sym (get_or-drop n before c 0))

module _ (b : Base) (q : Question) (p : Plan) (rows : List (List ℕ)) (y : Planned q p) (k : Copied b q p rows) where
  abbrev w : ℕ
  w = length q.row

  width : length p.row ≡ w
  width = ap length y.row_is ∙ length-places y.place q.row

  answer-wide : (r : Row) → Answers b q r → length r ≡ w
  answer-wide r a = ap length (sym a.is) ∙ length-all_at a.value q.row

  to-join : (r : Row) → Answers b q r → join.Answered (asked_by p rows) (cells r)
  to-join r a = (plan_answers b q p rows y k r (answer-wide r a)).0 a

  module _ (before out : List ℕ) (n : ℕ) (long : length out ≡ length before) (s : join.Standing (asked_by p rows) before out n) where
    room : n * w ≤ length out
    room = subst (λ (x : ℕ). n * x ≤ length out) width s.room

    place-room : (i : ℕ) → i < n → (i + 1) * w ≤ length out
    place-room i h = let l : (i + 1) * w ≤ n * w = mul-le-mul_right w (omega arith) in omega (arith, l, room)

    alike : (i c : ℕ) → c < w → cells (row_in w i out) c ≡ join.row_of out (length p.row) i c
    alike i c h = row-cell w i out c h ∙ ap (λ (x : ℕ). join.row_of out x i c) (sym width)

    rows-answered : (i : ℕ) → i < n → Answers b q (row_in w i out)
    rows-answered i h = (plan_answers b q p rows y k (row_in w i out) (length-row w i out (place-room i h))).1 (answered_alike (asked_by p rows) (join.row_of out (length p.row) i) (cells (row_in w i out)) (λ c l. alike i c (omega (arith, l, width))) (s.answered i h))

    lower : (i : ℕ) (v x : Value) → ((c : ℕ) → c < w → x c ≡ v c) → Before (length p.row) (join.row_of out (length p.row) i) v → Before w (cells (row_in w i out)) x
    lower i v x f h = before_alike w (join.row_of out (length p.row) i) v (cells (row_in w i out)) x (alike i) f (subst (λ (m : ℕ). Before m (join.row_of out (length p.row) i) v) width h)

    among : (r : Row) → Answers b q r → join.Among (asked_by p rows) out n (cells r) → Among w n out r
    among r a m = record {
      at = m.place;
      inside = m.inside;
      is = row_is w m.place out r (place-room m.place m.inside) (answer-wide r a) (λ c h. ap (λ (x : ℕ). join.row_of out x m.place c) (sym width) ∙ m.is c (omega (arith, h, width)));
    }

    behind-all : (v : Value) (r : Row) → ((c : ℕ) → c < w → cells r c ≡ v c) → join.AfterAll (asked_by p rows) out n v → BehindAll w n out r
    behind-all v r f h = λ i l. lower i v (cells r) f (h i l)

    pub first_rows : FirstRows b q before out n
    first_rows = record {
      room = room;
      answered = rows-answered;
      rising = λ i j h l. lower i (join.row_of out (length p.row) j) (cells (row_in w j out)) (alike j) (s.rising i j h l);
      first = λ r a. (elim (s.first (cells r) (to-join r a)) as (λ _. Among w n out r ⊎ BehindAll w n out r) [
        | inl m ↦ inl (among r a m)
        | inr h ↦ inr (behind-all (cells r) r (λ c l. refl) h)
      ]);
      rest = same-behind (n * w) before out long (λ x l. s.rest x (subst (λ (m : ℕ). n * m ≤ x) (sym width) l));
    }

    pub all_rows : ((r : Value) → join.Answered (asked_by p rows) r → join.Among (asked_by p rows) out n r) → AllRows b q before out n
    all_rows h = record { stand = first_rows; all = λ r a. among r a (h (cells r) (to-join r a)) }

    -- the next row, made of its cells
    pub no_room : join.NoRoom (asked_by p rows) out n → NoRoom b q before out n
    no_room m =
        let next : Row = map m.next (range_with_len 0 w) in
        let wide : length next ≡ w = length-map-range_with_len m.next 0 w in
        let cell : (c : ℕ) → c < w → cells next c ≡ m.next c = λ c h. get_or-map-range_with_len m.next 0 w c c 0 h (omega arith) in
        record {
          stand = first_rows;
          next = next;
          answered = (plan_answers b q p rows y k next wide).1 (answered_alike (asked_by p rows) m.next (cells next) (λ c l. cell c (omega (arith, l, width))) m.answered);
          behind = behind-all m.next next cell m.after;
          short = let h : length out < n * w + w = subst (λ (x : ℕ). length out < n * x + x) width m.short in omega arith;
        }

-- what the join is put out with means what the question answers
module _ (question tables : List ℕ) (b : Base) (q : Question) (accepted : answer_refusal question tables ≡ None) (base : b ≡ tables_in tables) (asked : q ≡ question_in question)
    (p : Plan) (rows : List (List ℕ)) (y : Planned q p) (k : Copied b q p rows) (before out : List ℕ) (long : length out ≡ length before) where
  pub meant : (r : Result ℕ Refusal) → RowsOut (asked_by p rows) before out r → Meant question tables before out r
  unfolding Meant
  meant (Ok n) h = (accepted, rw (← base, ← asked) (all_rows b q p rows y k before out n long h.0 h.1))
  meant (Err (NoRoomForRow n)) h = (accepted, rw (← base, ← asked) (no_room b q p rows y k before out n long h.0 h.1))
  meant (Err NoMemory) h = (accepted, h)
  meant (Err (CutShort n)) h = absurd h
  meant (Err (NoQuestion n)) h = absurd h
  meant (Err (NoReport n)) h = absurd h
  meant (Err (NoRoomForQuestion n)) h = absurd h
  meant (Err TooWide) h = absurd h
  meant (Err (TableTooLarge n)) h = absurd h
  meant (Err (NoRoomForTables n)) h = absurd h
