-- A question as it is written is written down there, so that it reads back.
use Rattle.std.proofs.Common.{◌≡◌, ℕ, ◌-◌, ◌*◌, ◌≤◌, List, [], ◌∷◌, ◌++◌, length, get_or, take, drop, replicate, sym, refl, ap, ◌∙◌, subst, arith}
use Rattle.std.proofs.lemmas.List.{append_assoc, append-nil, take_at, drop_at, get_or_at, length-append}
use Rattle.question.specs.declared.terms.Term.{Term}
use Rattle.question.specs.Question.{Line, Question, In}
use Rattle.question.specs.Layout.{question_in, terms_out, padded, line_out, lines_out, question_out}
use Rattle.question.specs.Reports.{questions_in, questions_out, reports_in, reports_out}
use Rattle.question.specs.Check.{WritesTerms, WritesLine, WritesLines, Writes}
use Rattle.question.specs.Laws.{HasRoom, ReadsBack, ReportsReadBack, WrittenAccepted}
use Rattle.question.proofs.Written.{writes_question_in}
use Rattle.question.proofs.Accepted.{not_refused}
use Rattle.question.proofs.Writing.{length-terms_out, length-padded, length-line_out}

terms_there : (n : ℕ) (ts : List Term) (rest : List ℕ) → WritesTerms (padded n (terms_out ts) ++ rest) ts
terms_there n ts rest =
    let z = replicate (n - length (terms_out ts)) 0 in
    ap (take (2 * length ts)) (append_assoc (terms_out ts) z rest) ∙ take_at (terms_out ts) (z ++ rest) (2 * length ts) (length-terms_out ts)

line-there : (l : Line) (rest : List ℕ) → WritesLine (line_out l ++ rest) l
unfolding line_out
line-there l rest = record { table = refl; count = refl; cells = terms_there 8 l.cells rest }

pub lines-there : (ls : List Line) (rest : List ℕ) → ((l : Line) → In l ls → length l.cells ≤ 4) → WritesLines (lines_out ls ++ rest) ls
unfolding lines_out
lines-there [] rest f = WritesLines.none_left
lines-there (l ∷ ls) rest f =
    let a : (line_out l ++ lines_out ls) ++ rest ≡ line_out l ++ (lines_out ls ++ rest) = append_assoc (line_out l) (lines_out ls) rest in
    let d : drop 10 (line_out l ++ (lines_out ls ++ rest)) ≡ lines_out ls ++ rest = drop_at (line_out l) (lines_out ls ++ rest) 10 (length-line_out l (f l In.here)) in
    subst (λ (xs : List ℕ). WritesLines xs (l ∷ ls)) (sym a)
    (WritesLines.and_line (line-there l (lines_out ls ++ rest)) (subst (λ (xs : List ℕ). WritesLines xs ls) (sym d) (lines-there ls rest (λ m i. f m (In.there i)))))

pub length-lines : (ls : List Line) → ((l : Line) → In l ls → length l.cells ≤ 4) → length (lines_out ls) ≡ 10 * length ls
unfolding lines_out
length-lines [] f = refl
length-lines (l ∷ ls) f =
    length-append (line_out l) (lines_out ls) ∙ omega (arith, length-line_out l (f l In.here), length-lines ls (λ m i. f m (In.there i)))

-- the parts of fifty numbers and what lies behind them
record Parts (n : ℕ) (t ls more xs : List ℕ) : Type 0 where
  pub long : 50 ≤ length xs
  pub count : get_or xs 9 0 ≡ n
  pub row : drop 1 xs ≡ t ++ ((n ∷ ls) ++ more)
  pub lines : drop 10 xs ≡ ls ++ more

parts : (w n : ℕ) (t ls more : List ℕ) → length t ≡ 8 → length ls ≡ 40 → Parts n t ls more (((w ∷ t) ++ (n ∷ ls)) ++ more)
parts w n t ls more eight forty =
    let a : ((w ∷ t) ++ (n ∷ ls)) ++ more ≡ (w ∷ t) ++ (n ∷ (ls ++ more)) = append_assoc (w ∷ t) (n ∷ ls) more in
    let b : ((w ∷ t) ++ (n ∷ ls)) ++ more ≡ ((w ∷ t) ++ n ∷ []) ++ (ls ++ more) = simp append_assoc in
    record {
      long = simp length-append (omega arith);
      count = ap (λ (xs : List ℕ). get_or xs 9 0) a ∙ get_or_at (w ∷ t) n (ls ++ more) 0 9 (omega arith);
      row = append_assoc t (n ∷ ls) more;
      lines = ap (drop 10) b ∙ drop_at ((w ∷ t) ++ n ∷ []) (ls ++ more) 10 (simp length-append (omega arith));
    }

there : (q : Question) → HasRoom q → (more : List ℕ) → Writes (question_out q ++ more) q
unfolding question_out
there q room more =
    let t = padded 8 (terms_out q.row) in
    let ls = padded 40 (lines_out q.lines) in
    let z = replicate (40 - length (lines_out q.lines)) 0 in
    let p : Parts (length q.lines) t ls more (question_out q ++ more) = parts (length q.row) (length q.lines) t ls more
    (length-padded 8 (terms_out q.row) (omega (arith, length-terms_out q.row, room.row)))
    (length-padded 40 (lines_out q.lines) (omega (arith, length-lines q.lines room.cells, room.lines))) in
    record {
      long = p.long;
      row_count = refl;
      row = ap (take (2 * length q.row)) p.row ∙ terms_there 8 q.row ((length q.lines ∷ ls) ++ more);
      line_count = p.count;
      lines = subst (λ (xs : List ℕ). WritesLines xs q.lines) (sym (p.lines ∙ append_assoc (lines_out q.lines) z more)) (lines-there q.lines (z ++ more) room.cells);
    }

pub reads_back : ReadsBack
reads_back q room more = writes_question_in (question_out q ++ more) q (there q room more)

pub written_accepted : WrittenAccepted
written_accepted q a more =
    not_refused (question_out q ++ more) (q, there q (record { row = a.row.few; lines = a.few; cells = λ l i. (a.cells l i).few }) more, a)

-- the same of several questions, one behind the other
pub length-question_out : (q : Question) → HasRoom q → length (question_out q) ≡ 50
unfolding question_out
length-question_out q room =
    let e = length-padded 8 (terms_out q.row) (omega (arith, length-terms_out q.row, room.row)) in
    let s = length-padded 40 (lines_out q.lines) (omega (arith, length-lines q.lines room.cells, room.lines)) in
    length-append (length q.row ∷ padded 8 (terms_out q.row)) (length q.lines ∷ padded 40 (lines_out q.lines)) ∙ omega arith

pub length-questions_out : (qs : List Question) → ((q : Question) → In q qs → HasRoom q) → length (questions_out qs) ≡ 50 * length qs
unfolding questions_out
length-questions_out [] h = refl
length-questions_out (q ∷ qs) h =
    length-append (question_out q) (questions_out qs) ∙ omega (arith, length-question_out q (h q In.here), length-questions_out qs (λ r i. h r (In.there i)))

questions_back : (qs : List Question) (more : List ℕ) → ((q : Question) → In q qs → HasRoom q) → questions_in (length qs) (questions_out qs ++ more) ≡ qs
unfolding questions_in questions_out
questions_back [] more h = refl
questions_back (q ∷ qs) more h =
    let l : length (question_out q) ≡ 50 = length-question_out q (h q In.here) in
    let one : question_in (question_out q) ≡ q = ap question_in (sym (append-nil (question_out q))) ∙ reads_back q (h q In.here) [] in
    rw (
      append_assoc (question_out q) (questions_out qs) more,
      take_at (question_out q) (questions_out qs ++ more) 50 l,
      drop_at (question_out q) (questions_out qs ++ more) 50 l,
      one,
      questions_back qs more (λ r i. h r (In.there i)),
    )

pub reports_read_back : ReportsReadBack
unfolding reports_in reports_out
reports_read_back rs h more =
    let z = replicate (401 - length (length rs ∷ questions_out rs)) 0 in
    ap (questions_in (length rs)) (append_assoc (questions_out rs) z more) ∙ questions_back rs (z ++ more) h
