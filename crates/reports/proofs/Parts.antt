-- Lent reports in parts of fifty numbers: when they are cut short, and the least part at fault.
use Rattle.std.proofs.Common.{◌≡◌, ℕ, zero, suc, ◌+◌, ◌-◌, ◌*◌, ◌/◌, ◌<◌, ◌≤◌, true, false, cond, List, [], ◌∷◌, map, ◌⊎◌, length, get_or, take, drop, Some, None, sym, refl, ap, ◌∙◌, inl, inr, arith}
use Rattle.std.specs.List.{list_all}
use Rattle.std.specs.Simd.{first_chunks}
use Rattle.std.proofs.lemmas.Bool.Decides.{nat_tests}
use Rattle.std.proofs.lemmas.Bool.{and_parts, and_from}
use Rattle.std.proofs.lemmas.List.{drop-drop, drop_more, length-drop}
use Rattle.question.specs.declared.refusals.Refusal.TheVariants.{CutShort}
use Rattle.question.specs.Question.{Line, Question}
use Rattle.question.specs.Layout.{question_in}
use Rattle.question.specs.Check.{question_refusal}
use Rattle.question.specs.Reports.{questions_in, reports_in}
use Rattle.question.proofs.Accepted.{allowed}
use Rattle.question.proofs.Chunks.{all-chunks, length-chunks}
use Rattle.reports.specs.Reports.{all_sound}
use Rattle.reports.proofs.Lent.{none_from}
use Rattle.reports.specs.Check.{same_widths, is_question, report_part, report_parts, part_good, parts_fault, agrees_before, report_good, report_fault, reports_short}

pub short_empty : (reports : List ℕ) → length reports ≡ 0 → reports_short reports ≡ Some (CutShort (length reports))
unfolding reports_short
short_empty reports h = grind (arith, nat_tests)

pub short_many : (n : ℕ) (reports rest : List ℕ) → reports ≡ n ∷ rest → 8 < n → reports_short reports ≡ Some (CutShort (length reports))
unfolding reports_short
short_many n reports rest e h =
    let k : get_or reports 0 0 ≡ n = ap (λ (xs : List ℕ). get_or xs 0 0) e in
    grind (arith, nat_tests)

pub short_cut : (n : ℕ) (reports rest : List ℕ) → reports ≡ n ∷ rest → (50 * n < 0) ⊎ (length rest < 50 * n) → reports_short reports ≡ Some (CutShort (length reports))
unfolding reports_short
short_cut n reports rest e (inl h) = absurd (omega arith)
short_cut n reports rest e (inr h) =
    let k : get_or reports 0 0 ≡ n = ap (λ (xs : List ℕ). get_or xs 0 0) e in
    let l : length reports ≡ 1 + length rest = ap length e ∙ omega arith in
    grind (arith, nat_tests)

pub not-short : (n : ℕ) (reports rest : List ℕ) → reports ≡ n ∷ rest → n ≤ 8 → 50 * n ≤ length rest → reports_short reports ≡ None
unfolding reports_short
not-short n reports rest e h b =
    let k : get_or reports 0 0 ≡ n = ap (λ (xs : List ℕ). get_or xs 0 0) e in
    let l : length reports ≡ 1 + length rest = ap length e ∙ omega arith in
    grind (arith, nat_tests)

-- the parts
pub all-parts : (n : ℕ) (reports rest numbers : List ℕ) (parts : List (List ℕ)) → reports ≡ n ∷ rest → 50 * n ≤ length rest → numbers ≡ take (50 * n) rest → parts ≡ first_chunks 50 (length numbers / 50) numbers
    → parts ≡ report_parts reports
unfolding report_parts
all-parts n reports rest numbers parts e h f p =
    p ∙ ap (λ (xs : List ℕ). first_chunks 50 (length xs / 50) xs) f ∙ all-chunks 50 n rest (omega arith) h ∙ ap (λ (xs : List ℕ). first_chunks 50 (get_or xs 0 0) (drop 1 xs)) (sym e)

pub length-parts : (reports : List ℕ) → length (report_parts reports) ≡ get_or reports 0 0
unfolding report_parts
length-parts reports = length-chunks 50 (get_or reports 0 0) (drop 1 reports)

chunk-at : (n i : ℕ) (xs : List ℕ) → i < n → get_or (first_chunks 50 n xs) i [] ≡ take 50 (drop (50 * i) xs)
chunk-at zero i xs h = absurd (omega arith)
chunk-at (suc n) zero xs h = refl
chunk-at (suc n) (suc i) xs h =
    let d : 50 * suc i ≡ 50 + 50 * i = omega arith in
    rw (d, ← drop-drop (50 * i) 50 xs) (chunk-at n i (drop 50 xs) (omega arith))

pub part_is : (reports : List ℕ) (i : ℕ) → i < get_or reports 0 0 → get_or (report_parts reports) i [] ≡ report_part i reports
unfolding report_parts report_part
part_is reports i h = rw (← drop-drop (50 * i) 1 reports) (chunk-at (get_or reports 0 0) i (drop 1 reports) h)

questions-chunks : (n : ℕ) (xs : List ℕ) → map question_in (first_chunks 50 n xs) ≡ questions_in n xs
unfolding questions_in
questions-chunks zero xs = refl
questions-chunks (suc n) xs = ap (λ (qs : List Question). question_in (take 50 xs) ∷ qs) (questions-chunks n (drop 50 xs))

pub parts-reports : (reports : List ℕ) → map question_in (report_parts reports) ≡ reports_in reports
unfolding report_parts reports_in
parts-reports reports = questions-chunks (get_or reports 0 0) (drop 1 reports)

-- the least part at fault, turn by turn
fault-step : (ls : List Line) (parts : List (List ℕ)) (i : ℕ) → i < length parts → parts_fault ls parts (length parts - i) i ≡ cond (part_good ls parts i) (parts_fault ls parts (length parts - (i + 1)) (i + 1)) (Some i)
unfolding parts_fault
fault-step ls parts i h = let e : length parts - i ≡ suc (length parts - (i + 1)) = omega arith in rw e

pub part-next : (ls : List Line) (parts : List (List ℕ)) (i : ℕ) → i < length parts → part_good ls parts i ≡ true → parts_fault ls parts (length parts - i) i ≡ parts_fault ls parts (length parts - (i + 1)) (i + 1)
part-next ls parts i h e = simp e at (fault-step ls parts i h)

pub part_stop : (ls : List Line) (parts : List (List ℕ)) (i : ℕ) → i < length parts → part_good ls parts i ≡ false → parts_fault ls parts (length parts - i) i ≡ Some i
part_stop ls parts i h e = simp e at (fault-step ls parts i h)

pub part_end : (ls : List Line) (parts : List (List ℕ)) (i : ℕ) → length parts ≤ i → parts_fault ls parts (length parts - i) i ≡ None
unfolding parts_fault
part_end ls parts i h = let e : length parts - i ≡ 0 = omega arith in rw e

pub good_checked : (ls : List Line) (parts : List (List ℕ)) (i : ℕ) → part_good ls parts i ≡ true → is_question (get_or parts i []) ≡ true
good_checked ls parts i e = (and_parts _ _ (and_parts _ _ e).0).0

-- it is the report at fault
agrees-all : (reports report : List ℕ) (n j : ℕ) → j + n ≤ get_or reports 0 0
    → agrees_before reports report n j ≡ list_all (λ r. same_widths r.lines (question_in report).lines) (map question_in (take n (drop j (report_parts reports))))
unfolding agrees_before
agrees-all reports report zero j h = refl
agrees-all reports report (suc n) j h =
    let parts = report_parts reports in
    let l : length parts ≡ get_or reports 0 0 = length-parts reports in
    let d : drop j parts ≡ get_or parts j [] ∷ drop (j + 1) parts = drop_more parts j [] (omega (arith, l)) in
    rw (d, part_is reports j (omega arith), agrees-all reports report n (j + 1) (omega arith))

good-same : (question reports : List ℕ) (i : ℕ) → i < get_or reports 0 0 → part_good (question_in question).lines (report_parts reports) i ≡ report_good question reports i
good-same question reports i h = rw (part_is reports i h, agrees-all reports (report_part i reports) i 0 (omega arith))

pub fault-same : (question reports : List ℕ) (n i : ℕ) → i + n ≤ get_or reports 0 0 → parts_fault (question_in question).lines (report_parts reports) n i ≡ report_fault question reports n i
unfolding parts_fault report_fault
fault-same question reports zero i h = refl
fault-same question reports (suc n) i h = rw (good-same question reports i (omega arith), fault-same question reports n (i + 1) (omega arith))

pub parts-few : (reports : List ℕ) (parts : List (List ℕ)) → reports_short reports ≡ None → parts ≡ report_parts reports → length parts ≤ 8
unfolding reports_short
parts-few reports parts h e =
    let n : get_or reports 0 0 ≤ 8 = grind (arith, nat_tests) in
    omega (arith, ap length e, length-parts reports)

pub fault-lent : (question reports : List ℕ) (parts : List (List ℕ)) (q : Question) → parts ≡ report_parts reports → q ≡ question_in question → parts_fault q.lines parts (length parts) 0 ≡ report_fault question reports (get_or reports 0 0) 0
fault-lent question reports parts q e f = rw (f, e, length-parts reports) (fault-same question reports (get_or reports 0 0) 0 (omega arith))

-- reports that are questions are sound
pub parts-sound : (parts : List (List ℕ)) → list_all is_question parts ≡ true → all_sound (map question_in parts) ≡ true
unfolding all_sound
parts-sound [] e = refl
parts-sound (p ∷ ps) e =
    let a = and_parts (is_question p) (list_all is_question ps) e in
    and_from _ _ (allowed p (none_from (question_refusal p) a.0)).is_sound (parts-sound ps a.1)

-- the first reports, where each is a question
chunks-checked : (n : ℕ) (xs : List ℕ) → ((i : ℕ) → i < n → question_refusal (take 50 (drop (50 * i) xs)) ≡ None) → list_all is_question (first_chunks 50 n xs) ≡ true
chunks-checked zero xs f = refl
chunks-checked (suc n) xs f =
    let a : is_question (take 50 xs) ≡ true = rw (f 0 (omega arith)) refl in
    and_from _ _ a (chunks-checked n (drop 50 xs) (λ i h. let d : 50 + 50 * i ≡ 50 * suc i = omega arith in rw (drop-drop (50 * i) 50 xs, d) (f (suc i) (omega arith))))

pub record Lent (n : ℕ) (numbers : List ℕ) (parts : List (List ℕ)) : Type 0 where
  pub checked : list_all is_question parts ≡ true
  pub count : length parts ≡ n
  pub are : map question_in parts ≡ questions_in n (drop 1 numbers)

pub chunks_lent : (n : ℕ) (numbers xs : List ℕ) (parts : List (List ℕ)) → ((i : ℕ) → i < n → question_refusal (take 50 (drop (1 + 50 * i) numbers)) ≡ None) → 1 + 50 * n ≤ length numbers → xs ≡ take (50 * n) (drop 1 numbers)
    → parts ≡ first_chunks 50 (length xs / 50) xs → Lent n numbers parts
chunks_lent n numbers xs parts f h e p =
    let l : 50 * n ≤ length (drop 1 numbers) = omega (arith, length-drop 1 numbers) in
    let is : parts ≡ first_chunks 50 n (drop 1 numbers) = p ∙ ap (λ (ys : List ℕ). first_chunks 50 (length ys / 50) ys) e ∙ all-chunks 50 n (drop 1 numbers) (omega arith) l in
    record {
      checked = rw is (chunks-checked n (drop 1 numbers) (λ i b. rw (drop-drop (50 * i) 1 numbers) (f i b)));
      count = ap length is ∙ length-chunks 50 n (drop 1 numbers);
      are = ap (map question_in) is ∙ questions-chunks n (drop 1 numbers);
    }
