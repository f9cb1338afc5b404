-- A question and reports that it may be asked of are not turned away.
use Rattle.std.proofs.Common.{◌≡◌, ℕ, zero, suc, ◌+◌, ◌<◌, Bool, true, false, cond, eqb, List, [], ◌∷◌, length, get_or, Some, None, refl, arith}
use Rattle.std.proofs.lemmas.Bool.Decides.{nat_tests}
use Rattle.std.proofs.lemmas.Bool.{and_from, not_from_false}
use Rattle.question.specs.declared.terms.Term.{Term}
use Rattle.question.specs.declared.terms.Term.TheVariants.{Number, Variable}
use Rattle.question.specs.declared.refusals.Refusal.{Refusal}
use Rattle.question.specs.Question.{Line, Question, In}
use Rattle.question.specs.Sound.{has, vars}
use Rattle.question.specs.Layout.{question_in}
use Rattle.question.specs.Check.{cut_short, question_refusal, Writes}
use Rattle.question.proofs.Members.{in_left, in_right, in_at, has_in, vars_in}
use Rattle.question.proofs.Written.{writes_question_in}
use Rattle.question.proofs.Accepted.{not_refused}
use Rattle.containment.specs.Order.{Apart}
use Rattle.reports.specs.Reports.{no_question}
use Rattle.reports.specs.Check.{different, same_width, same_widths, report_part, agrees_before, report_fits, report_good, report_fault, reports_short, reports_refusal, Columns, report_lines, Asked, WritesReports, IsAsked}
use Rattle.reports.proofs.Asking.{Agree}

-- different variables
has-not : (b : Bool) → (b ≡ true → ⊥) → b ≡ false
has-not true f = absurd (f refl)
has-not false f = refl

apart_head : (t : Term) (ts : List Term) → Apart (t ∷ ts) → (In t ts → ⊥) × Apart ts
apart_head t ts (Apart.and_one f a) = (f, a)

columns-different : (ts : List Term) → Columns ts → different ts ≡ true
unfolding different
columns-different [] c = refl
columns-different (Number n ∷ ts) c = let p = c.variables (Number n) In.here in let z : ◌≡◌ {A = ℕ} 0 1 = cc p.1 in absurd (omega arith)
columns-different (Variable x ∷ ts) c =
    let a = apart_head (Variable x) ts c.once in
    let h : has (vars ts) x ≡ false = has-not (has (vars ts) x) (λ e. a.0 (vars_in ts x (has_in (vars ts) x e))) in
    and_from _ _ (not_from_false _ h) (columns-different ts (record { variables = λ t i. c.variables t (In.there i); once = a.1 }))

-- lines that give a table one width
width-from : (ms : List Line) (l : Line) → ((m : Line) → In m ms → m.table ≡ l.table → length m.cells ≡ length l.cells) → same_width ms l ≡ true
unfolding same_width
width-from [] l f = refl
width-from (m ∷ ms) l f =
    let g : m.table ≡ l.table → length m.cells ≡ length l.cells = f m In.here in
    let a : cond (eqb m.table l.table) (eqb (length m.cells) (length l.cells)) true ≡ true = grind (arith, nat_tests) in
    and_from _ _ a (width-from ms l (λ k i. f k (In.there i)))

widths_from : (ms ls : List Line) → Agree ms ls → same_widths ms ls ≡ true
unfolding same_widths
widths_from ms [] f = refl
widths_from ms (l ∷ ls) f = and_from _ _ (width-from ms l (λ m i. f m l i In.here)) (widths_from ms ls (λ m k i j. f m k i (In.there j)))

before-from : (reports report : List ℕ) (n j : ℕ) → ((k : ℕ) → k < n → Agree (question_in (report_part (j + k) reports)).lines (question_in report).lines) → agrees_before reports report n j ≡ true
unfolding agrees_before
before-from reports report zero j f = refl
before-from reports report (suc n) j f =
    let z : j + 0 ≡ j = omega arith in
    and_from _ _ (widths_from _ _ (rw z at (f 0 (omega arith)))) (before-from reports report n (j + 1) (λ k h. let d : j + 1 + k ≡ j + suc k = omega arith in rw d (f (suc k) (omega arith))))

-- each report good: none at fault
none-at-fault : (question reports : List ℕ) (n i : ℕ) → ((k : ℕ) → k < n → report_good question reports (i + k) ≡ true) → report_fault question reports n i ≡ None
unfolding report_fault
none-at-fault question reports zero i f = refl
none-at-fault question reports (suc n) i f =
    let z : i + 0 ≡ i = omega arith in
    let g : report_good question reports i ≡ true = rw z at (f 0 (omega arith)) in
    rw g (none-at-fault question reports n (i + 1) (λ k h. let d : i + 1 + k ≡ i + suc k = omega arith in rw d (f (suc k) (omega arith))))

-- a line of a report is one of all
line_of_all : (rs : List Question) (i : ℕ) (l : Line) → i < length rs → In l (get_or rs i no_question).lines → In l (report_lines rs)
unfolding report_lines
line_of_all [] i l h j = absurd (omega arith)
line_of_all (r ∷ rs) zero l h j = in_left (report_lines rs) j
line_of_all (r ∷ rs) (suc i) l h j = in_right r.lines (line_of_all rs i l (omega arith) j)

good-at : (question reports : List ℕ) (q : Question) (rs : List Question) → Writes question q → WritesReports reports rs → Asked q rs → (i : ℕ) → i < length rs → report_good question reports i ≡ true
good-at question reports q rs w ws a i h =
    let at : (k : ℕ) → k < length rs → question_in (report_part k reports) ≡ get_or rs k no_question = λ k b. writes_question_in (report_part k reports) (get_or rs k no_question) (ws.each k b) in
    let r = get_or rs i no_question in
    let inside : In r rs = in_at rs i no_question h in
    let none : question_refusal (report_part i reports) ≡ None = not_refused (report_part i reports) (r, ws.each i h, a.reports_allowed r inside) in
    let fits : report_fits (report_part i reports) ≡ true = rw (none, at i h) (columns-different r.row (a.columns r inside)) in
    let own : same_widths (question_in question).lines (question_in (report_part i reports)).lines ≡ true =
    rw (writes_question_in question q w, at i h) (widths_from q.lines r.lines (λ m l j k. a.one_width m l (in_left (report_lines rs) j) (in_right q.lines (line_of_all rs i l h k)))) in
    let before : agrees_before reports (report_part i reports) i 0 ≡ true = before-from reports (report_part i reports) i 0 (λ k b.
    let z : 0 + k ≡ k = omega arith in
    let hk : k < length rs = omega arith in
    rw (z, at k hk, at i h) (λ m l j o. a.one_width m l (in_right q.lines (line_of_all rs k m hk j)) (in_right q.lines (line_of_all rs i l h o)))) in
    and_from _ _ fits (and_from _ _ own before)

pub admitted : (question reports : List ℕ) → IsAsked question reports → reports_refusal question reports ≡ None
unfolding reports_refusal reports_short
admitted question reports (q, rs, w, ws, a) =
    let checked : question_refusal question ≡ None = not_refused question (q, w, a.allowed) in
    let faultless : report_fault question reports (get_or reports 0 0) 0 ≡ None =
    rw ws.count (none-at-fault question reports (length rs) 0 (λ k h. let z : 0 + k ≡ k = omega arith in rw z (good-at question reports q rs w ws a k h))) in
    let short : cut_short question ≡ None = let h = w.long in grind (arith, nat_tests) in
    let lent : reports_short reports ≡ None = let h = ws.long in let n = ws.count in let f = a.few in grind (arith, nat_tests) in
    rw (short, lent, checked, faultless)

pub refused : (question reports : List ℕ) (e : Refusal) → reports_refusal question reports ≡ Some e → IsAsked question reports → ⊥
refused question reports e p q = let z : ◌≡◌ {A = ℕ} 0 1 = cc (p, admitted question reports q) in absurd (omega arith)
