-- The tests of reports as facts, and what the reports tell.
use Rattle.std.proofs.Common.{◌≡◌, ℕ, zero, suc, ◌<◌, true, List, [], ◌∷◌, ◌++◌, length, get_or, sym, refl, ap, ◌∙◌, subst, le_of_suc-le-suc, not-suc-le-zero, arith, length-append, ltb-true, lt-ltb, eq-eqb, eqb-true}
use lib.ListN.{get_or-append}
use Rattle.std.proofs.lemmas.Bool.{and_parts, and_from}
use Rattle.question.specs.declared.terms.Term.{Term}
use Rattle.question.specs.Question.{Line, Question, Row, Base, Value, all_at, In, Answers, Within, Same}
use Rattle.question.specs.Sound.{sound}
use Rattle.containment.specs.Reading.{line_put, Into, Reads}
use Rattle.containment.proofs.Readings.{after, all_at-put}
use Rattle.reports.specs.Reports.{no_question, Held, Told, fits, all_sound}
use Rattle.reports.specs.Laws.{SameReports, StillRight}

-- each line fits its report
abbrev pub Fit : List Question → Line → Type 0
Fit reports l = (l.table < length reports) × (length l.cells ≡ length (get_or reports l.table no_question).row)

pub fits_parts : (reports : List Question) {l : Line} {ls : List Line} → In l ls → fits reports ls ≡ true → Fit reports l
unfolding fits
fits_parts reports In.here e = let p = and_parts _ _ (and_parts _ _ e).0 in (ltb-true _ _ p.0, eqb-true _ _ p.1)
fits_parts reports (In.there a) e = fits_parts reports a (and_parts _ _ e).1

pub fits-from : (reports : List Question) (ls : List Line) → ((l : Line) → In l ls → Fit reports l) → fits reports ls ≡ true
unfolding fits
fits-from reports [] f = refl
fits-from reports (l ∷ ls) f =
    let h : Fit reports l = f l In.here in
    and_from _ _ (and_from _ _ (lt-ltb _ _ h.0) (eq-eqb _ _ h.1)) (fits-from reports ls (λ m a. f m (In.there a)))

-- the report at a place
pub report_in : (reports : List Question) (t : ℕ) → t < length reports → In (get_or reports t no_question) reports
report_in [] t h = absurd (not-suc-le-zero h)
report_in (r ∷ rs) zero h = In.here
report_in (r ∷ rs) (suc t) h = In.there (report_in rs t (le_of_suc-le-suc h))

pub sound_in : {r : Question} {reports : List Question} → In r reports → all_sound reports ≡ true → sound r ≡ true
unfolding all_sound
sound_in In.here e = (and_parts _ _ e).0
sound_in (In.there i) e = sound_in i (and_parts _ _ e).1

pub sound-at : (reports : List Question) (t : ℕ) → all_sound reports ≡ true → t < length reports → sound (get_or reports t no_question) ≡ true
sound-at reports t e h = sound_in (report_in reports t h) e

-- what is held
pub held_at : {b : Base} {reports : List Question} {v : Value} {l : Line} {ms : List Line} → In l ms → Held b reports v ms
    → (l.table < length reports) × Answers b (get_or reports l.table no_question) (all_at v l.cells)
held_at In.here (Held.and_line h a s) = (h, a)
held_at (In.there x) (Held.and_line h a s) = held_at x s

pub held_all : {b : Base} {reports : List Question} {v : Value} {h : ℕ → Term} {ms ls : List Line} → Into h ms ls → Held b reports v ms → Held b reports (after v h) ls
unfolding line_put
held_all Into.none_left s = Held.none_left
held_all {b} {reports} {v} {h} (Into.and_line {l = l} a xs) s =
    Held.and_line (held_at a s).0 (subst (λ (r : Row). Answers b (get_or reports l.table no_question) r) (all_at-put v h l.cells) (held_at a s).1) (held_all xs s)

pub held_same : {b : Base} {reports : List Question} {v : Value} (u : Value) {ls : List Line} → ((l : Line) → In l ls → all_at v l.cells ≡ all_at u l.cells) → Held b reports v ls → Held b reports u ls
held_same u f Held.none_left = Held.none_left
held_same {b} {reports} u f (Held.and_line {l = l} h a s) =
    Held.and_line h (subst (λ (r : Row). Answers b (get_or reports l.table no_question) r) (f l In.here) a) (held_same u (λ m i. f m (In.there i)) s)

-- a question over reports that is read into another is answered where the other is
pub told-reads : {reports : List Question} (p o : Question) → Reads p o → (b : Base) (r : Row) → Told b reports o r → Told b reports p r
told-reads p o e b r a =
    record { value = after a.value e.how; held = held_all e.lines a.held; is = sym (all_at-put a.value e.how p.row) ∙ ap (all_at a.value) e.row ∙ a.is }

pub same_reports : SameReports
unfolding Same Within
same_reports reports q p o s a =
    record { proper = a.proper; no_more = λ b r t. s.0 b r (a.no_more b r t); no_less = λ b r t. a.no_less b r (s.1 b r t) }

-- more reports
held_more : {b : Base} {reports : List Question} {v : Value} (more : List Question) {ls : List Line} → Held b reports v ls → Held b (reports ++ more) v ls
held_more more Held.none_left = Held.none_left
held_more {b} {reports} {v} more (Held.and_line {l = l} h a s) =
    Held.and_line (let e = length-append reports more in omega arith) (subst (λ (q : Question). Answers b q (all_at v l.cells)) (sym (get_or-append reports more no_question l.table h)) a) (held_more more s)

more-held : {b : Base} {v : Value} (reports more : List Question) {ls : List Line} → ((l : Line) → In l ls → Fit reports l) → Held b (reports ++ more) v ls → Held b reports v ls
more-held reports more f Held.none_left = Held.none_left
more-held {b} {v} reports more f (Held.and_line {l = l} h a s) =
    Held.and_line (f l In.here).0 (subst (λ (q : Question). Answers b q (all_at v l.cells)) (get_or-append reports more no_question l.table (f l In.here).0) a) (more-held reports more (λ k i. f k (In.there i)) s)

pub still_right : StillRight
still_right reports more q p a =
    let k = and_parts _ _ a.proper in
    let f : (l : Line) → In l p.lines → Fit reports l = λ l i. fits_parts reports i k.1 in
    record {
      proper = and_from _ _ k.0 (fits-from (reports ++ more) p.lines (λ l i. (let e = length-append reports more in let h = (f l i).0 in omega arith, (f l i).1 ∙ ap (λ (r : Question). length r.row) (sym (get_or-append reports more no_question l.table (f l i).0)))));
      no_more = λ b r t. a.no_more b r (record { value = t.value; held = more-held reports more f t.held; is = t.is });
      no_less = λ b r s. let t = a.no_less b r s in record { value = t.value; held = held_more more t.held; is = t.is };
    }
