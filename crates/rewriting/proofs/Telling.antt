-- What is found among the lines of the widest question, and what it means where it is written.
use Rattle.std.proofs.Common.{◌≡◌, ℕ, ◌<◌, ◌≤◌, Bool, true, false, cond, ltb, List, [], ◌∷◌, ◌++◌, map, length, get_or, drop, Some, None, Option, Ok, sym, refl, ap, ◌∙◌, subst, arith}
use Rattle.std.specs.List.{list_all}
use Rattle.std.specs.Option.{option_map, option_or}
use Rattle.std.proofs.lemmas.Bool.Decides.{nat_tests}
use Rattle.std.proofs.lemmas.Bool.{and_parts}
use Rattle.question.specs.declared.refusals.Refusal.{Refusal}
use Rattle.question.specs.declared.refusals.Refusal.TheVariants.{CutShort, NoQuestion, NoReport, NoRoomForQuestion, TooWide}
use Rattle.question.specs.Refusals.{number, told_number}
use Rattle.question.specs.Question.{Line, Question, In}
use Rattle.question.specs.Sound.{sound, Allowed}
use Rattle.question.specs.Layout.{line_in, line_fits, ten_fit, question_in, question_out}
use Rattle.question.specs.Check.{cut_short, fault, question_refusal}
use Rattle.question.specs.Reports.{reports_in}
use Rattle.question.proofs.Written.{LineWithin, fits-within-cells}
use Rattle.question.proofs.Fitting.{line_fits-cells}
use Rattle.question.proofs.Places.{in_head}
use Rattle.question.proofs.Accepted.{accepted}
use Rattle.question.proofs.Back.{reads_back, written_accepted}
use Rattle.minimization.specs.Choices.{by_size}
use Rattle.reports.specs.Reports.{no_question, all_sound}
use Rattle.reports.specs.Check.{Asked, report_fault, reports_short, reports_refusal}
use Rattle.reports.specs.Widest.{widest, IsTooWide}
use Rattle.reports.proofs.Reporting.{Fit}
use Rattle.reports.proofs.OwnUses.{use_fit}
use Rattle.reports.proofs.Fewer.{few-uses}
use Rattle.reports.proofs.Sorting.{widest_made}
use Rattle.rewriting.specs.declared.reply.Reply.{Reply}
use Rattle.rewriting.specs.declared.reply.Reply.TheVariants.{Refused}
use Rattle.rewriting.specs.Found.{Found, First, over_lines, will_do, choose, find}
use Rattle.rewriting.specs.Answer.{find_refusal, find_says, find_leaves, reply_of, told_by, left_by, answer_of, Numbered, Stands, Meant}
use Rattle.rewriting.proofs.Finding.{all-sound-from, find-allowed}

-- what is found, by the first choice that will do
pub found-by : (rs : List Question) (q : Question) (ws : List Line) (most : ℕ) (o : Option (List Line)) → ws ≡ (widest rs q).lines → most ≡ length q.lines
    → o ≡ by_size (will_do rs 16 16 q) ws most 1 → find rs 16 16 q ≡ option_map (over_lines q) o
unfolding find choose
found-by rs q ws most o w m e =
    ap (option_map (over_lines q)) (sym (e ∙ ap (λ (ks : List Line). by_size (will_do rs 16 16 q) ks most 1) w ∙ ap (λ (k : ℕ). by_size (will_do rs 16 16 q) (widest rs q).lines k 1) m))

-- how a call is turned away
pub refused_first : (question reports out : List ℕ) (e : Refusal) → reports_refusal question reports ≡ Some e → find_refusal question reports out ≡ Some e
unfolding find_refusal
refused_first question reports out e h = rw h

pub refused_room : (question reports out : List ℕ) → reports_refusal question reports ≡ None → length out < 50 → find_refusal question reports out ≡ Some (NoRoomForQuestion (length out))
unfolding find_refusal
refused_room question reports out h r = let t : ltb (length out) 50 ≡ true = grind (arith, nat_tests) in rw (h, t)

pub refused_wide : (question reports out : List ℕ) → reports_refusal question reports ≡ None → 50 ≤ length out → 32 < length (widest (reports_in reports) (question_in question)).lines
    → find_refusal question reports out ≡ Some TooWide
unfolding find_refusal
refused_wide question reports out h r w =
    let t : ltb (length out) 50 ≡ false = grind (arith, nat_tests) in
    let u : ltb 32 (length (widest (reports_in reports) (question_in question)).lines) ≡ true = grind (arith, nat_tests) in
    rw (h, t, u)

pub refused_not : (question reports out : List ℕ) → reports_refusal question reports ≡ None → 50 ≤ length out → length (widest (reports_in reports) (question_in question)).lines ≤ 32
    → find_refusal question reports out ≡ None
unfolding find_refusal
refused_not question reports out h r w =
    let t : ltb (length out) 50 ≡ false = grind (arith, nat_tests) in
    let u : ltb 32 (length (widest (reports_in reports) (question_in question)).lines) ≡ false = grind (arith, nat_tests) in
    rw (h, t, u)

-- a question and reports are turned away by number 3 at most
abbrev Low : Option Refusal → Type 0
Low o = told_number o ≤ 3

low_or : (a b : Option Refusal) → Low a → Low b → Low (option_or a b)
low_or None b f g = g
low_or (Some x) b f g = f

low-cond : (b : Bool) (u v : Option Refusal) → Low u → Low v → Low (cond b u v)
low-cond true u v f g = f
low-cond false u v f g = g

low_mapped : (f : ℕ → Refusal) (o : Option ℕ) → ((n : ℕ) → number (f n) ≤ 3) → Low (option_map f o)
low_mapped f None h = omega arith
low_mapped f (Some n) h = h n

low-cut : (xs : List ℕ) → Low (cut_short xs)
low-cut xs = low-cond _ (Some (CutShort (length xs))) None (omega arith) (omega arith)

low-short : (xs : List ℕ) → Low (reports_short xs)
unfolding reports_short
low-short xs = low-cond _ None (Some (CutShort (length xs))) (omega arith) (omega arith)

low-question : (xs : List ℕ) → Low (question_refusal xs)
unfolding question_refusal
low-question xs = low-cond _ (Some (CutShort (length xs))) _ (omega arith) (low_mapped NoQuestion (fault xs) (λ n. omega arith))

low_reports : (question reports : List ℕ) → Low (reports_refusal question reports)
unfolding reports_refusal
low_reports question reports =
    low_or (cut_short question) _ (low-cut question) (low_or (reports_short reports) _ (low-short reports)
    (low_or (question_refusal question) _ (low-question question) (low_mapped NoReport (report_fault question reports (get_or reports 0 0) 0) (λ n. omega arith))))

pub not_wide : (question reports : List ℕ) (e : Refusal) → reports_refusal question reports ≡ Some e → e ≡ TooWide → ⊥
not_wide question reports e h p = let z : 5 ≤ 3 = subst (λ (o : Option Refusal). told_number o ≤ 3) (h ∙ ap Some p) (low_reports question reports) in omega arith

-- what is found may be asked
found-allowed : (rs : List Question) (q p : Question) → Asked q rs → ((l : Line) → In l (widest rs q).lines → LineWithin l) → First rs q p → Found rs q (Some p) → Allowed p
found-allowed rs q p a within first (Found.by right least) =
    let ok : all_sound rs ≡ true = all-sound-from rs (λ r i. (a.reports_allowed r i).is_sound) in
    let few = few-uses rs q p a.allowed.is_sound right in
    let short : length p.lines ≤ length few.0.lines = least few.0 few.1 in
    let fit : (l : Line) → In l p.lines → Fit rs l = λ l i. use_fit rs q l ((widest_made rs q ok).0.right l (first.choice.from l i)) in
    record {
      row = rw first.row a.allowed.row;
      few = omega (arith, short, few.2, a.allowed.few);
      tables = λ l i. (within l (first.choice.from l i)).table;
      cells = λ l i. (within l (first.choice.from l i)).cells;
      one_width = λ l m i j t. (fit l i).1 ∙ ap (λ (k : ℕ). length (get_or rs k no_question).row) t ∙ sym (fit m j).1;
      is_sound = (and_parts (sound p) _ right.proper).0;
    }

-- where it is written, it stands
stands : (question reports more : List ℕ) (p : Question) → Asked (question_in question) (reports_in reports) → ((l : Line) → In l (widest (reports_in reports) (question_in question)).lines → LineWithin l)
    → find (reports_in reports) 16 16 (question_in question) ≡ Some p → Stands question reports (question_out p ++ more) (length p.lines)
stands question reports more p a within is =
    let q : Question = question_in question in
    let rs : List Question = reports_in reports in
    let out : List ℕ = question_out p ++ more in
    let made = find-allowed rs q a.reports_allowed a.allowed in
    let found : Found rs q (Some p) = subst (λ (o : Option Question). Found rs q o) is made.0 in
    let first : First rs q p = made.1 p is in
    let b : Allowed p = found-allowed rs q p a within first found in
    let back : question_in out ≡ p = reads_back p (record { row = b.row.few; lines = b.few; cells = λ l i. (b.cells l i).few }) more in
    record {
      asked = a;
      reads_back = is ∙ ap Some (sym back);
      found = rw back found;
      first = rw back first;
      is_question = accepted out (written_accepted p b more);
      count = ap (λ (o : Question). length o.lines) (sym back);
    }

meant-found : (question reports out : List ℕ) (o : Option Question) → Asked (question_in question) (reports_in reports)
    → ((l : Line) → In l (widest (reports_in reports) (question_in question)).lines → LineWithin l)
    → find (reports_in reports) 16 16 (question_in question) ≡ o → Meant question reports out (left_by o out) (told_by o)
unfolding Meant
meant-found question reports out None a within is = record { same = refl; asked = a; none = subst (λ (o : Option Question). Found (reports_in reports) (question_in question) o) is (find-allowed (reports_in reports) (question_in question) a.reports_allowed a.allowed).0 }
meant-found question reports out (Some p) a within is = stands question reports (drop 50 out) p a within is

-- what holds where a call is turned away, and where it is not
pub turned-away : (question reports out : List ℕ) (e : Refusal) → find_refusal question reports out ≡ Some e → (e ≡ TooWide → IsTooWide (reports_in reports) (question_in question))
    → (Refused e ≡ find_says question reports out) × (out ≡ find_leaves question reports out) × Meant question reports out out (Refused e)
unfolding find_says find_leaves Meant
turned-away question reports out e f w = (rw f, rw f, record { same = refl; why = f; wide = w })

counted : (o : Option Question) → reply_of (Ok (option_map (λ p. length p.lines) o)) ≡ told_by o
counted None = refl
counted (Some p) = refl

pub answered : (question reports out after : List ℕ) (uses : Option ℕ) → find_refusal question reports out ≡ None → Asked (question_in question) (reports_in reports)
    → ((l : Line) → In l (widest (reports_in reports) (question_in question)).lines → LineWithin l)
    → uses ≡ option_map (λ p. length p.lines) (find (reports_in reports) 16 16 (question_in question)) → after ≡ left_by (find (reports_in reports) 16 16 (question_in question)) out
    → (reply_of (Ok uses) ≡ find_says question reports out) × (after ≡ find_leaves question reports out) × Meant question reports out after (reply_of (Ok uses))
unfolding find_says find_leaves
answered question reports out after uses f a within u w =
    let p : Option Question = find (reports_in reports) 16 16 (question_in question) in
    let told : reply_of (Ok uses) ≡ told_by p = ap (λ (n : Option ℕ). reply_of (Ok n)) u ∙ counted p in
    (rw f told, rw f w, rw (told, w) (meant-found question reports out p a within refl))

-- lines of ten numbers each that fit are within the limits
pub tens-within : (xs : List (List ℕ)) → list_all (ten_fit 16) xs ≡ true → (l : Line) → In l (map line_in xs) → LineWithin l
tens-within [] f l i = elim i [ ]
tens-within (x ∷ xs) f l i =
    let a = and_parts _ _ f in
    let f : line_fits 16 x ≡ true = (and_parts _ _ a.0).1 in
    in_head LineWithin (record { table = (line_fits-cells 16 x f).0; cells = fits-within-cells x f }) (tens-within xs a.1 l) i

-- the number and the values of an answer
pub numbered : (o : Option Refusal) (found : Option Question) (r : Reply) → r ≡ answer_of o found → Numbered r o found
numbered o found r e = subst (λ (a : Reply). Numbered a o found) (sym e) (go o found)
  where
    go : (o : Option Refusal) (found : Option Question) → Numbered (answer_of o found) o found
    go None None = record { number = refl; values = refl }
    go None (Some p) = record { number = refl; values = refl }
    go (Some e) found = record { number = refl; values = refl }
