-- Every question over reports that is right can be put on uses that the reports have on the question's own lines.
use Rattle.std.proofs.Common.{◌≡◌, ℕ, List, [], ◌∷◌, ◌++◌, map, length, get_or, sym, refl, ap, ◌∙◌}
use Rattle.std.proofs.lemmas.Bool.{and_parts, and_from}
use Rattle.question.specs.declared.terms.Term.{Term}
use Rattle.question.specs.Question.{Line, Question, Base, Value, all_at, In, Stand, Within}
use Rattle.question.proofs.Members.{in_left, in_right}
use Rattle.containment.specs.Reading.{all_put, line_put, put_lines, Reads}
use Rattle.containment.specs.OwnTables.{own_tables, question_vars, ToldApart, Avoids, question_numbers, name_past}
use Rattle.containment.proofs.Readings.{reads-within, reads-sound, length-put, length-put_lines, in_put_lines, put_lines-each, into_from}
use Rattle.containment.proofs.OwnTables.{read_back, reading, past_row, past_line, backs_at, back-reads, back-own-row, own_answers}
use Rattle.containment.proofs.Naming.{name-apart, name_avoids}
use Rattle.reports.specs.Reports.{no_question, Held, Told, Shaped, AnsweredBy}
use Rattle.reports.specs.Widest.{OwnUse, Widest}
use Rattle.reports.specs.Laws.{ByTheWidest}
use Rattle.reports.proofs.Reporting.{Fit, fits-from, report_in, held_at, told-reads}

pub use_fit : (reports : List Question) (q : Question) (l : Line) → OwnUse reports q l → Fit reports l
use_fit reports q l t = (t.0, ap length (sym t.1.row) ∙ length-put t.1.how (get_or reports l.table no_question).row)

pub use_shaped : (reports : List Question) (q : Question) (l : Line) → OwnUse reports q l → Shaped reports l
use_shaped reports q l t = (t.0, (t.1.how, t.1.row))

pub uses-held : {b : Base} {v : Value} (reports : List Question) (q : Question) (ls : List Line) → ((l : Line) → In l ls → OwnUse reports q l) → Stand b v q.lines → Held b reports v ls
unfolding Within
uses-held reports q [] f s = Held.none_left
uses-held {b} {v} reports q (l ∷ ls) f s =
    let t : OwnUse reports q l = f l In.here in
    Held.and_line t.0 (reads-within _ _ t.1 b (all_at v l.cells) (record { value = v; stand = s; is = refl })) (uses-held reports q ls (λ m a. f m (In.there a)) s)

-- what is read into such uses, with the question's row, is right
pub by-uses : (reports : List Question) (q p o : Question) → AnsweredBy reports q p → Reads p o → o.row ≡ q.row → ((l : Line) → In l o.lines → OwnUse reports q l) → AnsweredBy reports q o
by-uses reports q p o a e r f =
    record {
      proper = and_from _ _ (reads-sound p o e (and_parts _ _ a.proper).0) (fits-from reports o.lines (λ l i. use_fit reports q l (f l i)));
      no_more = λ b s t. a.no_more b s (told-reads p o e b s t);
      no_less = λ b s t. record { value = t.value; held = uses-held reports q o.lines f t.stand; is = ap (all_at t.value) r ∙ t.is };
    }

-- the numbers that reports name
unfoldable report_numbers : List Question → List ℕ
report_numbers [] = []
report_numbers (r ∷ rs) = question_numbers r ++ report_numbers rs

in_report_numbers : {r : Question} {rs : List Question} (n : ℕ) → In r rs → In n (question_numbers r) → In n (report_numbers rs)
unfolding report_numbers
in_report_numbers n (In.here {xs = rs}) i = in_left (report_numbers rs) i
in_report_numbers n (In.there {x = s} a) i = in_right (question_numbers s) (in_report_numbers n a i)

-- a right question's lines, read back from the question's own tables, are such uses
pub record ReadOn (reports : List Question) (q p : Question) : Type 0 where
  pub how : ℕ → Term
  pub row : all_put how p.row ≡ q.row
  pub own : (l : Line) → In l p.lines → OwnUse reports q (line_put how l)

pub read_on : (reports : List Question) (q p : Question) → AnsweredBy reports q p → ReadOn reports q p
unfolding line_put
read_on reports q p a =
    let ns : List ℕ = question_numbers q ++ (question_numbers p ++ report_numbers reports) in
    let v : Value = name_past ns in
    let d : ToldApart v q = λ x y _ _. name-apart ns x y in
    let mq : Avoids v q q = λ x _. name_avoids ns q (λ n i. in_left (question_numbers p ++ report_numbers reports) i) x in
    let mp : Avoids v q p = λ x _. name_avoids ns p (λ n i. in_right (question_numbers q) (in_left (report_numbers reports) i)) x in
    let t : Told (own_tables v q) reports p (all_at v q.row) = a.no_less _ _ (own_answers v q) in
    record {
      how = reading v (question_vars q) t.value;
      row = backs_at v (question_vars q) t.value p.row (past_row v q p mp) ∙ ap (map (read_back v (question_vars q))) t.is ∙ back-own-row v q d mq;
      own = λ l i.
          let h = held_at i t.held in
          let r : Question = get_or reports l.table no_question in
          let mr : Avoids v q r = λ x _. name_avoids ns r (λ n j. in_right (question_numbers q) (in_right (question_numbers p) (in_report_numbers n (report_in reports l.table h.0) j))) x in
          let e : Reads r (record { row = map (read_back v (question_vars q)) (all_at t.value l.cells); lines = q.lines }) = back-reads v q d mq r _ mr h.1 in
          (h.0, record { how = e.how; lines = e.lines; row = e.row ∙ sym (backs_at v (question_vars q) t.value l.cells (past_line v q p mp l i)) });
    }

-- a right question on uses that the reports have on the question's own lines, as long as the one given
pub record OnOwn (reports : List Question) (q p : Question) : Type 0 where
  pub lines : List Line
  pub own : (l : Line) → In l lines → OwnUse reports q l
  pub right : AnsweredBy reports q (record { row = q.row; lines = lines })
  pub long : length lines ≡ length p.lines

pub on-own : (reports : List Question) (q p : Question) → AnsweredBy reports q p → OnOwn reports q p
on-own reports q p a =
    let t : ReadOn reports q p = read_on reports q p a in
    let f : (l : Line) → In l (put_lines t.how p.lines) → OwnUse reports q l = put_lines-each t.how (OwnUse reports q) p.lines t.own in
    let e : Reads p (record { row = q.row; lines = put_lines t.how p.lines })
    = record { how = t.how; lines = into_from p.lines (λ l i. in_put_lines t.how i); row = t.row } in
    record { lines = put_lines t.how p.lines; own = f; right = by-uses reports q p _ a e refl f; long = length-put_lines t.how p.lines }

pub widest-right : (reports : List Question) (q w p : Question) → Widest reports q w → AnsweredBy reports q p → AnsweredBy reports q w
widest-right reports q w p wi a =
    let t : ReadOn reports q p = read_on reports q p a in
    by-uses reports q p w a
    (record { how = t.how; lines = into_from p.lines (λ l i. wi.all (line_put t.how l) (t.own l i)); row = t.row ∙ sym wi.row })
    wi.row wi.right

pub by_the_widest : ByTheWidest
by_the_widest reports q w wi = (λ r. widest-right reports q w r.0 wi r.1, λ a. (w, a))
