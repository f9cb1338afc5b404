-- How lent reports are turned away, beside the question that is asked of them, and what it means that they are not. Assumes nothing: these are definitions.
use Rattle.std.specs.Prelude.{◌≡◌, ℕ, zero, suc, ◌+◌, ◌*◌, ◌<◌, ◌≤◌, Bool, true, false, cond, not, ◌&&◌, List, [], ◌∷◌, ◌++◌, map, length, get_or, take, drop, is_some, Some, None, Option, ◌==◌, nat_le, slice_index, slice_index_or}
use Rattle.std.specs.List.{list_all}
use Rattle.std.specs.Simd.{first_chunks}
use Rattle.std.specs.Option.{option_map, option_or}
use Rattle.question.specs.declared.terms.Term.{Term}
use Rattle.question.specs.declared.terms.Term.TheVariants.{Number, Variable}
use Rattle.question.specs.declared.refusals.Refusal.{Refusal}
use Rattle.question.specs.declared.refusals.Refusal.TheVariants.{CutShort, NoReport}
use Rattle.question.specs.Question.{Line, Question, In}
use Rattle.question.specs.Sound.{has, vars, OneWidth, Allowed}
use Rattle.question.specs.Layout.{question_in}
use Rattle.question.specs.Check.{cut_short, question_refusal, Writes}
use Rattle.containment.specs.Order.{Apart}
use Rattle.reports.specs.Reports.{no_question}

-- the terms are different variables
unfoldable pub different : List Term → Bool
different [] = true
different (Number n ∷ ts) = false
different (Variable x ∷ ts) = not (has (vars ts) x) && different ts

-- no line has the table with another width
unfoldable pub same_width : List Line → Line → Bool
same_width [] l = true
same_width (m ∷ ms) l = cond (m.table == l.table) (length m.cells == length l.cells) true && same_width ms l

-- the same of each of the lines
unfoldable pub same_widths : (ms ls : List Line) → Bool
same_widths ms [] = true
same_widths ms (l ∷ ls) = same_width ms l && same_widths ms ls

-- the fifty numbers of the i-th report
unfoldable pub report_part : ℕ → List ℕ → List ℕ
report_part i reports = take 50 (drop (1 + 50 * i) reports)

-- the report agrees on the widths of tables with n reports from the j-th on
unfoldable pub agrees_before : (reports report : List ℕ) (n j : ℕ) → Bool
agrees_before reports report zero j = true
agrees_before reports report (suc n) j = same_widths (question_in (report_part j reports)).lines (question_in report).lines && agrees_before reports report n (j + 1)

-- the numbers are a report: a question whose row is made of different variables
abbrev pub report_fits : List ℕ → Bool
report_fits report = not (is_some (question_refusal report)) && different (question_in report).row

-- the i-th report is one, and agrees on the widths of tables with the question and the reports before it
abbrev pub report_good : (question reports : List ℕ) → ℕ → Bool
report_good question reports i =
    report_fits (report_part i reports) && (same_widths (question_in question).lines (question_in (report_part i reports)).lines && agrees_before reports (report_part i reports) i 0)

-- the least report at fault, of n from the i-th on
unfoldable pub report_fault : (question reports : List ℕ) (n i : ℕ) → Option ℕ
report_fault question reports zero i = None
report_fault question reports (suc n) i = cond (report_good question reports i) (report_fault question reports n (i + 1)) (Some i)

-- the same of reports that lie in parts of fifty numbers each, beside a question of some lines
abbrev pub is_question : List ℕ → Bool
is_question xs = not (is_some (question_refusal xs))

unfoldable pub report_parts : List ℕ → List (List ℕ)
report_parts reports = first_chunks 50 (slice_index reports 0) (drop 1 reports)

abbrev pub part_good : List Line → List (List ℕ) → ℕ → Bool
part_good ls parts i =
    report_fits (slice_index_or parts i []) && (same_widths ls (question_in (slice_index_or parts i [])).lines && list_all (λ r. same_widths r.lines (question_in (slice_index_or parts i [])).lines) (map question_in (take i parts)))

unfoldable pub parts_fault : List Line → List (List ℕ) → (n i : ℕ) → Option ℕ
parts_fault ls parts zero i = None
parts_fault ls parts (suc n) i = cond (part_good ls parts i) (parts_fault ls parts n (i + 1)) (Some i)

-- the reports are cut short, or more than eight
unfoldable pub reports_short : List ℕ → Option Refusal
reports_short reports =
    cond (nat_le 1 (length reports) && (nat_le (slice_index reports 0) 8 && nat_le (1 + 50 * slice_index reports 0) (length reports))) None (Some (CutShort (length reports)))

-- the first refusal that applies to a question and reports: number 1 of the question, of the reports, number 2, number 3
unfoldable pub reports_refusal : (question reports : List ℕ) → Option Refusal
reports_refusal question reports =
    option_or (cut_short question) (option_or (reports_short reports) (option_or (question_refusal question) (option_map NoReport (report_fault question reports (slice_index reports 0) 0))))

-- the numbers hold at most eight reports, and each is a question: what may be read and used
pub record AreReports (reports : List ℕ) : Type 0 where
  pub few : get_or reports 0 0 ≤ 8
  pub long : 1 + 50 * slice_index reports 0 ≤ length reports
  pub each : (i : ℕ) → i < slice_index reports 0 → question_refusal (report_part i reports) ≡ None

-- the terms are variables, and none stands twice
pub record Columns (ts : List Term) : Type 0 where
  pub variables : (t : Term) → In t ts → (x : ℕ) × (t ≡ Variable x)
  pub once : Apart ts

-- the lines of all reports
unfoldable pub report_lines : List Question → List Line
report_lines [] = []
report_lines (r ∷ rs) = r.lines ++ report_lines rs

-- a question and reports that it may be asked of: one table has one width over all their lines
pub record Asked (q : Question) (rs : List Question) : Type 0 where
  pub few : length rs ≤ 8
  pub allowed : Allowed q
  pub reports_allowed : (r : Question) → In r rs → Allowed r
  pub columns : (r : Question) → In r rs → Columns r.row
  pub one_width : OneWidth (q.lines ++ report_lines rs)

-- the numbers write the reports down: their count, then fifty numbers for each
pub record WritesReports (xs : List ℕ) (rs : List Question) : Type 0 where
  pub count : get_or xs 0 0 ≡ length rs
  pub long : 1 + 50 * length rs ≤ length xs
  pub each : (i : ℕ) → i < length rs → Writes (report_part i xs) (slice_index_or rs i no_question)

-- the numbers are a question and reports that it may be asked of
abbrev pub IsAsked : (question reports : List ℕ) → Type 0
IsAsked question reports = (q : Question) × (rs : List Question) × Writes question q × WritesReports reports rs × Asked q rs
