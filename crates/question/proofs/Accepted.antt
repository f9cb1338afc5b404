-- A lent question is accepted exactly if its numbers write down a question that may be asked.
use Rattle.std.proofs.Common.{◌≡◌, ℕ, zero, suc, ◌+◌, ◌*◌, ◌<◌, ◌≤◌, min, Bool, true, false, cond, eqb, ltb, List, [], ◌∷◌, length, get_or, take, drop, Some, None, Option, sym, refl, ap, ◌∙◌, inl, inr, arith}
use Rattle.std.proofs.lemmas.Bool.Decides.{nat_tests, leb_tells}
use Rattle.std.proofs.lemmas.Bool.{and_parts, and_from}
use Rattle.std.proofs.lemmas.List.{get_or-take, drop-drop, length-drop}
use Rattle.std.specs.Option.{option_map, option_or}
use Rattle.question.specs.declared.refusals.Refusal.{Refusal}
use Rattle.question.specs.declared.refusals.Refusal.TheVariants.{CutShort, NoQuestion}
use Rattle.question.specs.Question.{Line, Question, In}
use Rattle.question.specs.Sound.{sound, OneWidth, Allowed}
use Rattle.question.specs.Layout.{terms_in, terms_fit, line_in, lines_in, lines_fit, line_part, question_in}
use Rattle.question.specs.Check.{agrees, line_good, least_fault, row_good, fault, question_refusal, WritesLine, WritesLines, Writes, IsQuestion}
use Rattle.question.proofs.Members.{in_cases, in_at}
use Rattle.question.proofs.Fitting.{line_fits-take}
use Rattle.question.proofs.Decoding.{length-terms_in, length-lines_in}
use Rattle.question.proofs.Faults.{cond-none, no_fault-fits}
use Rattle.question.proofs.Written.{fits_writes_terms, fits_writes_lines, writes_question_in, within-fits_terms, within-fits-line, fits-within_terms, fits-within-lines}

-- no line at fault: each line is good, and the other way round
each-good : (n i : ℕ) (xs : List ℕ) → least_fault xs n i ≡ None → (k : ℕ) → k < n → line_good xs (i + k) ≡ true
unfolding least_fault
each-good zero i xs e k h = absurd (omega arith)
each-good (suc n) i xs e zero h = let z : i + 0 ≡ i = omega arith in rw z (cond-none _ _ _ e).0
each-good (suc n) i xs e (suc k) h = let z : i + suc k ≡ i + 1 + k = omega arith in rw z (each-good n (i + 1) xs (cond-none _ _ _ e).1 k (omega arith))

none-at-fault : (n i : ℕ) (xs : List ℕ) → ((k : ℕ) → k < n → line_good xs (i + k) ≡ true) → least_fault xs n i ≡ None
unfolding least_fault
none-at-fault zero i xs f = refl
none-at-fault (suc n) i xs f =
    let z : i + 0 ≡ i = omega arith in
    let g : line_good xs i ≡ true = rw z at (f 0 (omega arith)) in
    rw g (none-at-fault n (i + 1) xs (λ k h. let d : i + 1 + k ≡ i + suc k = omega arith in rw d (f (suc k) (omega arith))))

-- agreeing with the lines before, place by place
agrees_at : (n i t w : ℕ) (xs : List ℕ) → i < n → agrees n t w xs ≡ true → get_or (drop (10 * i) xs) 0 0 ≡ t → get_or (drop (10 * i) xs) 1 0 ≡ w
unfolding agrees
agrees_at zero i t w xs h e p = absurd (omega arith)
agrees_at (suc n) zero t w xs h e p = let f : cond (eqb (get_or xs 0 0) t) (eqb (get_or xs 1 0) w) true ≡ true = (and_parts _ _ e).0 in grind (arith, nat_tests)
agrees_at (suc n) (suc i) t w xs h e p =
    let d : 10 * suc i ≡ 10 + 10 * i = omega arith in
    rw (d, ← drop-drop (10 * i) 10 xs) (agrees_at n i t w (drop 10 xs) (omega arith) (and_parts _ _ e).1 (rw (d, ← drop-drop (10 * i) 10 xs) at p))

agrees_from : (n t w : ℕ) (xs : List ℕ) → ((i : ℕ) → i < n → get_or (drop (10 * i) xs) 0 0 ≡ t → get_or (drop (10 * i) xs) 1 0 ≡ w) → agrees n t w xs ≡ true
unfolding agrees
agrees_from zero t w xs f = refl
agrees_from (suc n) t w xs f =
    let g : get_or xs 0 0 ≡ t → get_or xs 1 0 ≡ w = f 0 (omega arith) in
    let a : cond (eqb (get_or xs 0 0) t) (eqb (get_or xs 1 0) w) true ≡ true = grind (arith, nat_tests) in
    and_from _ _ a (agrees_from n t w (drop 10 xs) (λ i h. let d : 10 * suc i ≡ 10 + 10 * i = omega arith in rw (drop-drop (10 * i) 10 xs, ← d) (f (suc i) (omega arith))))

-- each line has its place
record Place (l : Line) (n : ℕ) (xs : List ℕ) : Type 0 where
  pub at : ℕ
  pub below : at < n
  pub is : line_in (drop (10 * at) xs) ≡ l

place : (n : ℕ) (xs : List ℕ) (l : Line) → In l (lines_in n xs) → Place l n xs
unfolding lines_in
place zero xs l i = elim i [ ]
place (suc n) xs l i =
    in_cases (Place l (suc n) xs) (λ p. record { at = 0; below = omega arith; is = p }) (λ j. let m : Place l n (drop 10 xs) = place n (drop 10 xs) l j in
    record { at = suc m.at; below = omega arith; is = let d : 10 * suc m.at ≡ 10 + 10 * m.at = omega arith in rw (d, ← drop-drop (10 * m.at) 10 xs) m.is }) i

good-width : (i j : ℕ) (xs : List ℕ) → i < j → line_good xs j ≡ true → get_or (drop (10 * i) xs) 0 0 ≡ get_or (drop (10 * j) xs) 0 0 → get_or (drop (10 * i) xs) 1 0 ≡ get_or (drop (10 * j) xs) 1 0
unfolding line_part
good-width i j xs h e p =
    let a : get_or (take 10 (drop (10 * j) xs)) 0 0 ≡ get_or (drop (10 * j) xs) 0 0 = get_or-take 10 (drop (10 * j) xs) 0 0 (omega arith) in
    let b : get_or (take 10 (drop (10 * j) xs)) 1 0 ≡ get_or (drop (10 * j) xs) 1 0 = get_or-take 10 (drop (10 * j) xs) 1 0 (omega arith) in
    agrees_at j i _ _ xs h (and_parts _ _ e).1 (p ∙ sym a) ∙ b

-- two places with one table have one width
same_width : (n i j : ℕ) (xs : List ℕ) → ((k : ℕ) → k < n → line_good xs k ≡ true) → i < n → j < n → get_or (drop (10 * i) xs) 0 0 ≡ get_or (drop (10 * j) xs) 0 0
    → get_or (drop (10 * i) xs) 1 0 ≡ get_or (drop (10 * j) xs) 1 0
same_width n i j xs f hi hj e =
    elim (leb_tells (suc i) j) [
      | inl p ↦ good-width i j xs p.1 (f j hj) e
      | inr p ↦ elim (leb_tells (suc j) i) [
        | inl r ↦ sym (good-width j i xs r.1 (f i hi) (sym e))
        | inr r ↦ let s : i ≡ j = omega (arith, p.1, r.1) in ap (λ (k : ℕ). get_or (drop (10 * k) xs) 1 0) s
      ]
    ]

one_width-from : (n : ℕ) (xs : List ℕ) → ((k : ℕ) → k < n → line_good xs k ≡ true) → OneWidth (lines_in n xs)
one_width-from n xs f l m il im e =
    let p : Place l n xs = place n xs l il in
    let q : Place m n xs = place n xs m im in
    let a : get_or (drop (10 * p.at) xs) 0 0 ≡ get_or (drop (10 * q.at) xs) 0 0 = ap (λ (k : Line). k.table) p.is ∙ e ∙ sym (ap (λ (k : Line). k.table) q.is) in
    let b = same_width n p.at q.at xs f p.below q.below a in
    sym (ap (λ (k : Line). length k.cells) p.is) ∙ length-terms_in _ _ ∙ b ∙ sym (length-terms_in _ _) ∙ ap (λ (k : Line). length k.cells) q.is

-- what a question that is not turned away holds
pub record Checked (xs : List ℕ) : Type 0 where
  pub long : 50 ≤ length xs
  pub few : get_or xs 9 0 ≤ 4
  pub good : (k : ℕ) → k < get_or xs 9 0 → line_good (drop 10 xs) k ≡ true
  pub lines : lines_fit 16 (get_or xs 9 0) (drop 10 xs) ≡ true
  pub narrow : get_or xs 0 0 ≤ 4
  pub row : terms_fit 16 (get_or xs 0 0) (drop 1 xs) ≡ true
  pub is_sound : sound (question_in xs) ≡ true

no_fault : (xs : List ℕ) → fault xs ≡ None → (least_fault (drop 10 xs) (min (get_or xs 9 0) 4) 0 ≡ None) × (row_good xs ≡ true)
unfolding fault
no_fault xs e = go (least_fault (drop 10 xs) (min (get_or xs 9 0) 4) 0) (row_good xs) e
  where
    go : (o : Option ℕ) (b : Bool) → option_or o (cond b None (Some 4)) ≡ None → (o ≡ None) × (b ≡ true)
    go None true f = (refl, refl)
    go None false f = let z : ◌≡◌ {A = ℕ} 0 1 = cc f in absurd (omega arith)
    go (Some i) b f = let z : ◌≡◌ {A = ℕ} 0 1 = cc f in absurd (omega arith)

pub none_mapped : {A B : Type 0} (f : A → B) (o : Option A) → option_map f o ≡ None → o ≡ None
none_mapped f None e = refl
none_mapped f (Some a) e = let z : ◌≡◌ {A = ℕ} 0 1 = cc e in absurd (omega arith)

long_enough : (b : Bool) (n : ℕ) (o : Option ℕ) → ltb n 50 ≡ b → cond b (Some (CutShort n)) (option_map NoQuestion o) ≡ None → (50 ≤ n) × (o ≡ None)
long_enough true n o t e = let z : ◌≡◌ {A = ℕ} 0 1 = cc e in absurd (omega arith)
long_enough false n o t e = (grind (arith, nat_tests), none_mapped NoQuestion o e)

pub checked : (xs : List ℕ) → question_refusal xs ≡ None → Checked xs
unfolding question_refusal
checked xs e =
    let p : (50 ≤ length xs) × (fault xs ≡ None) = long_enough (ltb (length xs) 50) (length xs) (fault xs) refl e in
    let f = no_fault xs p.1 in
    let g : (get_or xs 9 0 ≤ 4) × (get_or xs 0 0 ≤ 4) × (terms_fit 16 (get_or xs 0 0) (drop 1 xs) ≡ true) × (sound (question_in xs) ≡ true) = let h = f.1 in grind (arith, nat_tests) in
    let m : min (get_or xs 9 0) 4 ≡ get_or xs 9 0 = omega (arith, g.0) in
    let l : least_fault (drop 10 xs) (get_or xs 9 0) 0 ≡ None = rw m at f.0 in
    record {
      long = p.0;
      few = g.0;
      good = λ k h. let z : 0 + k ≡ k = omega arith in rw z at (each-good (get_or xs 9 0) 0 (drop 10 xs) l k h);
      lines = no_fault-fits (get_or xs 9 0) (drop 10 xs) l;
      narrow = g.1;
      row = g.2;
      is_sound = g.3;
    }

-- what is accepted is a question that may be asked
pub allowed : (xs : List ℕ) → question_refusal xs ≡ None → Allowed (question_in xs)
unfolding question_in
allowed xs e =
    let c : Checked xs = checked xs e in
    let within = fits-within-lines (get_or xs 9 0) (drop 10 xs) c.lines in
    record {
      row = record { few = rw (length-terms_in (get_or xs 0 0) (drop 1 xs)) c.narrow; each = fits-within_terms (get_or xs 0 0) (drop 1 xs) c.row };
      few = rw (length-lines_in (get_or xs 9 0) (drop 10 xs)) c.few;
      tables = λ l i. (within l i).table;
      cells = λ l i. (within l i).cells;
      one_width = one_width-from (get_or xs 9 0) (drop 10 xs) c.good;
      is_sound = c.is_sound;
    }

pub accepted : (xs : List ℕ) → question_refusal xs ≡ None → IsQuestion xs
unfolding question_in
accepted xs e =
    let c : Checked xs = checked xs e in
    let n : length (lines_in (get_or xs 9 0) (drop 10 xs)) ≡ get_or xs 9 0 = length-lines_in (get_or xs 9 0) (drop 10 xs) in
    let w : length (terms_in (get_or xs 0 0) (drop 1 xs)) ≡ get_or xs 0 0 = length-terms_in (get_or xs 0 0) (drop 1 xs) in
    let writes : Writes xs (question_in xs) = record {
      long = c.long;
      row_count = sym w;
      row = rw w (fits_writes_terms 16 (get_or xs 0 0) (drop 1 xs) (simp length-drop (omega (arith, c.long, c.narrow))) c.row);
      line_count = sym n;
      lines = fits_writes_lines 16 (get_or xs 9 0) (drop 10 xs) (simp length-drop (omega (arith, c.long, c.few))) c.lines;
    } in
    (question_in xs, writes, allowed xs e)

-- a line of what is written, by its place
line_written : (k : ℕ) (ls : List Line) (xs : List ℕ) (d : Line) → k < length ls → WritesLines xs ls → WritesLine (drop (10 * k) xs) (get_or ls k d)
line_written k [] xs d h ws = absurd (omega arith)
line_written zero (l ∷ ls) xs d h (WritesLines.and_line w ws) = w
line_written (suc k) (l ∷ ls) xs d h (WritesLines.and_line w ws) =
    let e : 10 * suc k ≡ 10 + 10 * k = omega arith in
    rw (e, ← drop-drop (10 * k) 10 xs) (line_written k ls (drop 10 xs) d (omega arith) ws)

allowed-good : (k : ℕ) (q : Question) (xs : List ℕ) → WritesLines xs q.lines → Allowed q → k < length q.lines → line_good xs k ≡ true
unfolding line_part
allowed-good k q xs ws a h =
    let d : Line = record { table = 0; cells = [] } in
    let at : (i : ℕ) → i < length q.lines → WritesLine (drop (10 * i) xs) (get_or q.lines i d) = λ i b. line_written i q.lines xs d b ws in
    let l : Line = get_or q.lines k d in
    let i : In l q.lines = in_at q.lines k d h in
    let t : get_or (take 10 (drop (10 * k) xs)) 0 0 ≡ l.table = get_or-take 10 (drop (10 * k) xs) 0 0 (omega arith) ∙ (at k h).table in
    let w : get_or (take 10 (drop (10 * k) xs)) 1 0 ≡ length l.cells = get_or-take 10 (drop (10 * k) xs) 1 0 (omega arith) ∙ (at k h).count in
    and_from _ _ (line_fits-take 16 10 (drop (10 * k) xs) (omega arith) ∙ within-fits-line (drop (10 * k) xs) l (at k h) (a.tables l i) (a.cells l i))
    (agrees_from k _ _ xs (λ j b e.
    let hj : j < length q.lines = omega arith in
    (at j hj).count ∙ a.one_width (get_or q.lines j d) l (in_at q.lines j d hj) i (sym (at j hj).table ∙ e ∙ t) ∙ sym w))

-- a question that may be asked is accepted
pub not_refused : (xs : List ℕ) → IsQuestion xs → question_refusal xs ≡ None
unfolding question_refusal fault
not_refused xs (q, w, a) =
    let n : get_or xs 9 0 ≤ 4 = rw w.line_count a.few in
    let m : min (get_or xs 9 0) 4 ≡ length q.lines = omega (arith, n, w.line_count) in
    let r : get_or xs 0 0 ≤ 4 = rw w.row_count a.row.few in
    let f : terms_fit 16 (get_or xs 0 0) (drop 1 xs) ≡ true = rw w.row_count (within-fits_terms q.row (drop 1 xs) w.row a.row.each) in
    let s : sound (question_in xs) ≡ true = ap sound (writes_question_in xs q w) ∙ a.is_sound in
    let l : least_fault (drop 10 xs) (min (get_or xs 9 0) 4) 0 ≡ None = rw m (none-at-fault (length q.lines) 0 (drop 10 xs) (λ k h. let z : 0 + k ≡ k = omega arith in rw z (allowed-good k q (drop 10 xs) w.lines a h))) in
    let g : row_good xs ≡ true = grind (arith, nat_tests) in
    let long : ltb (length xs) 50 ≡ false = let h = w.long in grind (arith, nat_tests) in
    rw (long, l, g)

pub refused : (xs : List ℕ) (e : Refusal) → question_refusal xs ≡ Some e → IsQuestion xs → ⊥
refused xs e p q = let z : ◌≡◌ {A = ℕ} 0 1 = cc (p, not_refused xs q) in absurd (omega arith)
