-- Reports in lent numbers: how many there are, what stands at each place, and what is known of those that are not turned away.
use Rattle.std.proofs.Common.{◌≡◌, ℕ, zero, suc, ◌+◌, ◌*◌, ◌<◌, ◌≤◌, true, not, List, [], ◌∷◌, length, get_or, take, drop, is_some, Some, None, Option, refl, ap, arith}
use Rattle.std.proofs.lemmas.Bool.Decides.{nat_tests}
use Rattle.std.proofs.lemmas.Bool.{and_parts, and_from}
use Rattle.std.proofs.lemmas.List.{drop-drop}
use Rattle.std.specs.Option.{option_or}
use Rattle.question.specs.declared.terms.Term.TheVariants.{Variable}
use Rattle.question.specs.declared.refusals.Refusal.TheVariants.{NoReport}
use Rattle.question.specs.Question.{Question, In}
use Rattle.question.specs.Sound.{Allowed}
use Rattle.question.specs.Layout.{question_in}
use Rattle.question.specs.Reports.{questions_in, reports_in}
use Rattle.question.specs.Check.{cut_short, question_refusal}
use Rattle.question.proofs.Places.{in_head}
use Rattle.question.proofs.Faults.{cond-none}
use Rattle.question.proofs.Accepted.{none_mapped, allowed}
use Rattle.reports.specs.Reports.{no_question, all_sound}
use Rattle.reports.specs.Expand.{Narrow}
use Rattle.reports.specs.Check.{report_part, report_good, report_fault, reports_short, reports_refusal, AreReports}

length-questions_in : (n : ℕ) (xs : List ℕ) → length (questions_in n xs) ≡ n
unfolding questions_in
length-questions_in zero xs = refl
length-questions_in (suc n) xs = ap suc (length-questions_in n (drop 50 xs))

pub length-reports_in : (reports : List ℕ) → length (reports_in reports) ≡ get_or reports 0 0
unfolding reports_in
length-reports_in reports = length-questions_in (get_or reports 0 0) (drop 1 reports)

question-at : (n i : ℕ) (xs : List ℕ) → i < n → get_or (questions_in n xs) i no_question ≡ question_in (take 50 (drop (50 * i) xs))
unfolding questions_in
question-at zero i xs h = absurd (omega arith)
question-at (suc n) zero xs h = refl
question-at (suc n) (suc i) xs h =
    let d : 50 * suc i ≡ 50 + 50 * i = omega arith in
    rw (d, ← drop-drop (50 * i) 50 xs) (question-at n i (drop 50 xs) (omega arith))

-- the i-th report is the question in its part
pub report_is : (reports : List ℕ) (i : ℕ) → i < get_or reports 0 0 → get_or (reports_in reports) i no_question ≡ question_in (report_part i reports)
unfolding reports_in report_part
report_is reports i h = rw (← drop-drop (50 * i) 1 reports) (question-at (get_or reports 0 0) i (drop 1 reports) h)

-- what holds at each place holds of each
pub each_at : {A : Type 0} (P : A → Type 0) (xs : List A) (d : A) → ((k : ℕ) → k < length xs → P (get_or xs k d)) → (a : A) → In a xs → P a
each_at P [] d f a i = elim i [ ]
each_at P (x ∷ xs) d f a i = in_head P (f 0 (omega arith)) (λ j. each_at P xs d (λ k h. f (suc k) (omega arith)) a j) i

-- a report that is good is a question
pub none_from : {A : Type 0} (o : Option A) → not (is_some o) ≡ true → o ≡ None
none_from None e = refl
none_from (Some a) e = let z : ◌≡◌ {A = ℕ} 0 1 = cc e in absurd (omega arith)

pub good-checked : (question reports : List ℕ) (i : ℕ) → report_good question reports i ≡ true → question_refusal (report_part i reports) ≡ None
good-checked question reports i e = none_from (question_refusal (report_part i reports)) (and_parts _ _ (and_parts _ _ e).0).0

-- no report at fault: each is good
each-good : (question reports : List ℕ) (n i : ℕ) → report_fault question reports n i ≡ None → (k : ℕ) → k < n → report_good question reports (i + k) ≡ true
unfolding report_fault
each-good question reports zero i e k h = absurd (omega arith)
each-good question reports (suc n) i e zero h = let z : i + 0 ≡ i = omega arith in rw z (cond-none _ _ _ e).0
each-good question reports (suc n) i e (suc k) h =
    let z : i + suc k ≡ i + 1 + k = omega arith in
    rw z (each-good question reports n (i + 1) (cond-none _ _ _ e).1 k (omega arith))

-- what a question and reports that are not turned away hold
pub record Passed (question reports : List ℕ) : Type 0 where
  pub checked : question_refusal question ≡ None
  pub few : get_or reports 0 0 ≤ 8
  pub long : 1 + 50 * get_or reports 0 0 ≤ length reports
  pub good : (i : ℕ) → i < get_or reports 0 0 → report_good question reports i ≡ true

none_of : {A : Type 0} (a b : Option A) → option_or a b ≡ None → (a ≡ None) × (b ≡ None)
none_of None b e = (refl, e)
none_of (Some x) b e = let z : ◌≡◌ {A = ℕ} 0 1 = cc e in absurd (omega arith)

not_short : (reports : List ℕ) → reports_short reports ≡ None → (get_or reports 0 0 ≤ 8) × (1 + 50 * get_or reports 0 0 ≤ length reports)
unfolding reports_short
not_short reports e = grind (arith, nat_tests)

pub passed : (question reports : List ℕ) → reports_refusal question reports ≡ None → Passed question reports
unfolding reports_refusal
passed question reports e =
    let a = (none_of (cut_short question) _ e).1 in
    let b = none_of (reports_short reports) _ a in
    let c = none_of (question_refusal question) _ b.1 in
    let l = not_short reports b.0 in
    let f = none_mapped NoReport (report_fault question reports (get_or reports 0 0) 0) c.1 in
    record {
      checked = c.0;
      few = l.0;
      long = l.1;
      good = λ i h. let z : 0 + i ≡ i = omega arith in rw z at (each-good question reports (get_or reports 0 0) 0 f i h);
    }

pub are_reports : (question reports : List ℕ) → reports_refusal question reports ≡ None → AreReports reports
are_reports question reports e =
    let p = passed question reports e in
    record { few = p.few; long = p.long; each = λ i h. good-checked question reports i (p.good i h) }

-- what is known of reports that may be used
pub report_allowed : (reports : List ℕ) → AreReports reports → (r : Question) → In r (reports_in reports) → Allowed r
report_allowed reports a =
    each_at (λ (r : Question). Allowed r) (reports_in reports) no_question (λ k h.
    let b : k < get_or reports 0 0 = omega (arith, length-reports_in reports) in
    rw (report_is reports k b) (allowed (report_part k reports) (a.each k b)))

sound-each : (rs : List Question) → ((r : Question) → In r rs → Allowed r) → all_sound rs ≡ true
unfolding all_sound
sound-each [] f = refl
sound-each (r ∷ rs) f = and_from _ _ (f r In.here).is_sound (sound-each rs (λ s i. f s (In.there i)))

pub reports_sound : (reports : List ℕ) → AreReports reports → all_sound (reports_in reports) ≡ true
reports_sound reports a = sound-each (reports_in reports) (report_allowed reports a)

pub reports_narrow : (reports : List ℕ) → AreReports reports → Narrow 16 (reports_in reports)
reports_narrow reports a r i l j x k = ((report_allowed reports a r i).cells l j).each (Variable x) k
