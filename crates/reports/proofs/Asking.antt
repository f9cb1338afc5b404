-- A question and reports that are not turned away are such as may be asked and used.
use Rattle.std.proofs.Common.{◌≡◌, ℕ, zero, suc, ◌+◌, ◌<◌, true, false, cond, eqb, List, [], ◌∷◌, ◌++◌, length, get_or, None, sym, refl, subst, inl, inr, arith}
use Rattle.std.proofs.lemmas.Bool.Decides.{nat_tests, leb_tells}
use Rattle.std.proofs.lemmas.Bool.{and_parts, not-true, both_ways}
use Rattle.question.specs.declared.terms.Term.{Term}
use Rattle.question.specs.declared.terms.Term.TheVariants.{Number, Variable}
use Rattle.question.specs.Question.{Line, Question, In}
use Rattle.question.specs.Sound.{has, vars, OneWidth}
use Rattle.question.specs.Layout.{question_in}
use Rattle.question.specs.Reports.{reports_in}
use Rattle.question.proofs.Members.{in_split, in_has, in_vars}
use Rattle.question.proofs.Places.{in_head}
use Rattle.question.proofs.Accepted.{allowed}
use Rattle.containment.specs.Order.{Apart}
use Rattle.reports.specs.Reports.{no_question}
use Rattle.reports.specs.Check.{different, same_width, same_widths, report_part, agrees_before, report_fits, report_good, reports_refusal, Columns, report_lines, Asked}
use Rattle.reports.proofs.Lent.{length-reports_in, report_is, each_at, Passed, passed, are_reports, report_allowed, good-checked}

-- different variables, as facts
number-not : (n : ℕ) (ts : List Term) → different (Number n ∷ ts) ≡ true → ⊥
unfolding different
number-not n ts e = both_ways false refl e

next-different : (x : ℕ) (ts : List Term) → different (Variable x ∷ ts) ≡ true → (has (vars ts) x ≡ false) × (different ts ≡ true)
unfolding different
next-different x ts e = let p = and_parts _ _ e in (not-true _ p.0, p.1)

columns : (ts : List Term) → different ts ≡ true → Columns ts
columns [] e = record { variables = λ t i. elim i [ ]; once = Apart.none_left }
columns (Number n ∷ ts) e = absurd (number-not n ts e)
columns (Variable x ∷ ts) e =
    let p = next-different x ts e in
    let more = columns ts p.1 in
    record {
      variables = λ t i. in_head (λ (u : Term). (y : ℕ) × (u ≡ Variable y)) (x, refl) (λ j. more.variables t j) i;
      once = Apart.and_one (λ i. both_ways _ p.0 (in_has (in_vars i))) more.once;
    }

-- two lists of lines give a table one width
abbrev pub Agree : (ms ls : List Line) → Type 0
Agree ms ls = (m l : Line) → In m ms → In l ls → m.table ≡ l.table → length m.cells ≡ length l.cells

width-at : (ms : List Line) (l : Line) → same_width ms l ≡ true → (m : Line) → In m ms → m.table ≡ l.table → length m.cells ≡ length l.cells
unfolding same_width
width-at [] l e m i = elim i [ ]
width-at (k ∷ ms) l e m i =
    let p : (cond (eqb k.table l.table) (eqb (length k.cells) (length l.cells)) true ≡ true) × (same_width ms l ≡ true) = and_parts _ _ e in
    in_head (λ (n : Line). n.table ≡ l.table → length n.cells ≡ length l.cells) (λ t. let h = p.0 in grind (arith, nat_tests)) (λ j. width-at ms l p.1 m j) i

widths_at : (ms ls : List Line) → same_widths ms ls ≡ true → Agree ms ls
unfolding same_widths
widths_at ms [] e m l i j = elim j [ ]
widths_at ms (k ∷ ls) e m l i j =
    let p : (same_width ms k ≡ true) × (same_widths ms ls ≡ true) = and_parts _ _ e in
    in_head (λ (n : Line). m.table ≡ n.table → length m.cells ≡ length n.cells) (width-at ms k p.0 m i) (λ h. widths_at ms ls p.1 m l i h) j

before_at : (reports report : List ℕ) (n j : ℕ) → agrees_before reports report n j ≡ true → (k : ℕ) → k < n → Agree (question_in (report_part (j + k) reports)).lines (question_in report).lines
unfolding agrees_before
before_at reports report zero j e k h = absurd (omega arith)
before_at reports report (suc n) j e zero h = let z : j + 0 ≡ j = omega arith in rw z (widths_at _ _ (and_parts _ _ e).0)
before_at reports report (suc n) j e (suc k) h = let z : j + suc k ≡ j + 1 + k = omega arith in rw z (before_at reports report n (j + 1) (and_parts _ _ e).1 k (omega arith))

-- the parts of a report that is good
good-columns : (question reports : List ℕ) (i : ℕ) → report_good question reports i ≡ true → Columns (question_in (report_part i reports)).row
good-columns question reports i e = columns _ (and_parts _ _ (and_parts _ _ e).0).1

good-question : (question reports : List ℕ) (i : ℕ) → report_good question reports i ≡ true → Agree (question_in question).lines (question_in (report_part i reports)).lines
good-question question reports i e = widths_at _ _ (and_parts _ _ (and_parts _ _ e).1).0

good-before : (question reports : List ℕ) (i j : ℕ) → i < j → report_good question reports j ≡ true → Agree (question_in (report_part i reports)).lines (question_in (report_part j reports)).lines
good-before question reports i j h e =
    let z : 0 + i ≡ i = omega arith in
    let a : agrees_before reports (report_part j reports) j 0 ≡ true =
    (and_parts (same_widths (question_in question).lines (question_in (report_part j reports)).lines) _ (and_parts (report_fits (report_part j reports)) _ e).1).1 in
    rw z at (before_at reports (report_part j reports) j 0 a i h)

-- each line of the reports has its report
record Place (l : Line) (rs : List Question) : Type 0 where
  pub at : ℕ
  pub below : at < length rs
  pub is_in : In l (get_or rs at no_question).lines

place : (rs : List Question) (l : Line) → In l (report_lines rs) → Place l rs
unfolding report_lines
place [] l i = elim i [ ]
place (r ∷ rs) l i =
    elim (in_split r.lines (report_lines rs) i) [
      | inl a ↦ record { at = 0; below = omega arith; is_in = a }
      | inr b ↦ let p : Place l rs = place rs l b in record { at = suc p.at; below = omega arith; is_in = p.is_in }
    ]

record LentPlace (l : Line) (reports : List ℕ) : Type 0 where
  pub at : ℕ
  pub below : at < get_or reports 0 0
  pub is_in : In l (question_in (report_part at reports)).lines

lent_place : (reports : List ℕ) (l : Line) → In l (report_lines (reports_in reports)) → LentPlace l reports
lent_place reports l i =
    let p : Place l (reports_in reports) = place (reports_in reports) l i in
    let b : p.at < get_or reports 0 0 = omega (arith, p.below, length-reports_in reports) in
    record { at = p.at; below = b; is_in = subst (λ (q : Question). In l q.lines) (report_is reports p.at b) p.is_in }

-- two lines of reports with one table have one width
reports_agree : (question reports : List ℕ) → Passed question reports → (l m : Line) → LentPlace l reports → LentPlace m reports → l.table ≡ m.table → length l.cells ≡ length m.cells
reports_agree question reports w l m p q t =
    elim (leb_tells (suc p.at) q.at) [
      | inl a ↦ good-before question reports p.at q.at a.1 (w.good q.at q.below) l m p.is_in q.is_in t
      | inr a ↦ elim (leb_tells (suc q.at) p.at) [
        | inl b ↦ sym (good-before question reports q.at p.at b.1 (w.good p.at p.below) m l q.is_in p.is_in (sym t))
        | inr b ↦
            let s : q.at ≡ p.at = omega (arith, a.1, b.1) in
            (allowed (report_part p.at reports) (good-checked question reports p.at (w.good p.at p.below))).one_width l m p.is_in (subst (λ (k : ℕ). In m (question_in (report_part k reports)).lines) s q.is_in) t
      ]
    ]

one_width : (question reports : List ℕ) → Passed question reports → OneWidth ((question_in question).lines ++ report_lines (reports_in reports))
one_width question reports w l m i j t =
    let ls = (question_in question).lines in
    let ks = report_lines (reports_in reports) in
    elim (in_split ls ks i) [
      | inl a ↦ elim (in_split ls ks j) [
        | inl b ↦ (allowed question w.checked).one_width l m a b t
        | inr b ↦ let p = lent_place reports m b in good-question question reports p.at (w.good p.at p.below) l m a p.is_in t
      ]
      | inr a ↦ let p = lent_place reports l a in elim (in_split ls ks j) [
        | inl b ↦ sym (good-question question reports p.at (w.good p.at p.below) m l b p.is_in (sym t))
        | inr b ↦ reports_agree question reports w l m p (lent_place reports m b) t
      ]
    ]

pub asked : (question reports : List ℕ) → reports_refusal question reports ≡ None → Asked (question_in question) (reports_in reports)
asked question reports e =
    let w = passed question reports e in
    record {
      few = rw (length-reports_in reports) w.few;
      allowed = allowed question w.checked;
      reports_allowed = report_allowed reports (are_reports question reports e);
      columns = each_at (λ (r : Question). Columns r.row) (reports_in reports) no_question (λ k h.
          let b : k < get_or reports 0 0 = omega (arith, length-reports_in reports) in
          rw (report_is reports k b) (good-columns question reports k (w.good k b)));
      one_width = one_width question reports w;
    }
