-- What numbers write down is what lies in them, and what fits is written down.
use Rattle.std.proofs.Common.{◌≡◌, ℕ, zero, suc, ◌*◌, ◌<◌, ◌≤◌, true, List, [], ◌∷◌, length, get_or, take, drop, sym, refl, ap, subst, ap₂, arith}
use Rattle.std.proofs.lemmas.Bool.Decides.{nat_tests}
use Rattle.std.proofs.lemmas.Bool.{and_parts, and_from}
use Rattle.std.proofs.lemmas.List.{length-drop}
use Rattle.question.specs.declared.terms.Term.{Term}
use Rattle.question.specs.declared.terms.Term.TheVariants.{Number, Variable}
use Rattle.question.specs.Question.{Line, Question, In}
use Rattle.question.specs.Sound.{TermWithin, TermsWithin}
use Rattle.question.specs.Layout.{term_in, term_fits, terms_in, terms_fit, line_in, line_fits, lines_in, lines_fit, question_in, terms_out}
use Rattle.question.specs.Check.{WritesTerms, WritesLine, WritesLines, Writes}
use Rattle.question.proofs.Members.{in_cases}
use Rattle.question.proofs.Fitting.{line_fits-cells}
use Rattle.question.proofs.Decoding.{length-terms_in}

-- a term that fits is written by its own numbers
pub term_out_in : (limit a b : ℕ) (ts : List Term) → term_fits limit a b ≡ true → terms_out (term_in a b ∷ ts) ≡ a ∷ b ∷ terms_out ts
unfolding terms_out
term_out_in limit zero b ts e = refl
term_out_in limit (suc zero) b ts e = refl
term_out_in limit (suc (suc k)) b ts e = absurd (grind (arith, nat_tests))

-- terms that fit are written down where they lie
pub fits_writes_terms : (limit n : ℕ) (xs : List ℕ) → 2 * n ≤ length xs → terms_fit limit n xs ≡ true → take (2 * n) xs ≡ terms_out (terms_in n xs)
unfolding terms_fit terms_in terms_out
fits_writes_terms limit zero xs h e = refl
fits_writes_terms limit (suc n) [] h e = absurd (omega arith)
fits_writes_terms limit (suc n) (a ∷ []) h e = absurd (omega arith)
fits_writes_terms limit (suc n) (a ∷ b ∷ xs) h e =
    let d : 2 * suc n ≡ suc (suc (2 * n)) = omega arith in
    let f : (term_fits limit a b ≡ true) × (terms_fit limit n xs ≡ true) = and_parts _ _ e in
    rw (d, term_out_in limit a b (terms_in n xs) f.0) (ap (λ (ys : List ℕ). a ∷ b ∷ ys) (fits_writes_terms limit n xs (omega arith) f.1))

pub fits_writes_line : (limit : ℕ) (xs : List ℕ) → 10 ≤ length xs → line_fits limit xs ≡ true → WritesLine xs (line_in xs)
fits_writes_line limit xs h e =
    let f = line_fits-cells limit xs e in
    let w : length (terms_in (get_or xs 1 0) (drop 2 xs)) ≡ get_or xs 1 0 = length-terms_in (get_or xs 1 0) (drop 2 xs) in
    record {
      table = refl;
      count = sym w;
      cells = rw w (fits_writes_terms limit (get_or xs 1 0) (drop 2 xs) (simp length-drop (omega (arith, f.1))) f.2);
    }

pub fits_writes_lines : (limit n : ℕ) (xs : List ℕ) → 10 * n ≤ length xs → lines_fit limit n xs ≡ true → WritesLines xs (lines_in n xs)
unfolding lines_fit lines_in
fits_writes_lines limit zero xs h e = WritesLines.none_left
fits_writes_lines limit (suc n) xs h e =
    let f : (line_fits limit xs ≡ true) × (lines_fit limit n (drop 10 xs) ≡ true) = and_parts _ _ e in
    WritesLines.and_line (fits_writes_line limit xs (omega arith) f.0) (fits_writes_lines limit n (drop 10 xs) (simp length-drop (omega arith)) f.1)

-- two numbers at the front, and what follows them
front_two : (n a b : ℕ) (ys xs : List ℕ) → take (2 * suc n) xs ≡ a ∷ b ∷ ys → (get_or xs 0 0 ≡ a) × (get_or xs 1 0 ≡ b) × (take (2 * n) (drop 2 xs) ≡ ys)
front_two n a b ys xs e = go xs (let d : suc (suc (2 * n)) ≡ 2 * suc n = omega arith in rw d e)
  where
    go : (xs : List ℕ) → take (suc (suc (2 * n))) xs ≡ a ∷ b ∷ ys → (get_or xs 0 0 ≡ a) × (get_or xs 1 0 ≡ b) × (take (2 * n) (drop 2 xs) ≡ ys)
    go [] f = let z : ◌≡◌ {A = ℕ} 0 1 = cc f in absurd (omega arith)
    go (x ∷ []) f = let z : ◌≡◌ {A = ℕ} 0 1 = cc f in absurd (omega arith)
    go (x ∷ y ∷ zs) f = (cc f, cc f, cc f)

-- terms are told by what writes them
pub writes_terms_in : (ts : List Term) (xs : List ℕ) → WritesTerms xs ts → terms_in (length ts) xs ≡ ts
unfolding terms_in terms_out
writes_terms_in [] xs e = refl
writes_terms_in (Number n ∷ ts) xs e =
    let f = front_two (length ts) 0 n (terms_out ts) xs e in
    rw (f.0, f.1, writes_terms_in ts (drop 2 xs) f.2)
writes_terms_in (Variable x ∷ ts) xs e =
    let f = front_two (length ts) 1 x (terms_out ts) xs e in
    rw (f.0, f.1, writes_terms_in ts (drop 2 xs) f.2)

line-is : (xs : List ℕ) (l : Line) → WritesLine xs l → line_in xs ≡ l
line-is xs l w =
    let cells : terms_in (get_or xs 1 0) (drop 2 xs) ≡ l.cells = rw w.count (writes_terms_in l.cells (drop 2 xs) w.cells) in
    ap₂ {C = Line} (λ (t : ℕ) (cs : List Term). record { table = t; cells = cs }) w.table cells

pub writes_lines_in : (ls : List Line) (xs : List ℕ) → WritesLines xs ls → lines_in (length ls) xs ≡ ls
unfolding lines_in
writes_lines_in [] xs w = refl
writes_lines_in (l ∷ ls) xs (WritesLines.and_line w ws) = ap₂ {C = List Line} (λ (m : Line) (ms : List Line). m ∷ ms) (line-is xs l w) (writes_lines_in ls (drop 10 xs) ws)

-- a question is told by what writes it
pub writes_question_in : (xs : List ℕ) (q : Question) → Writes xs q → question_in xs ≡ q
unfolding question_in
writes_question_in xs q w =
    let row : terms_in (get_or xs 0 0) (drop 1 xs) ≡ q.row = rw w.row_count (writes_terms_in q.row (drop 1 xs) w.row) in
    let lines : lines_in (get_or xs 9 0) (drop 10 xs) ≡ q.lines = rw w.line_count (writes_lines_in q.lines (drop 10 xs) w.lines) in
    ap₂ {C = Question} (λ (r : List Term) (ls : List Line). record { row = r; lines = ls }) row lines

-- what is within the limits fits where it is written
term-within-fits : (k n : ℕ) → k < 2 → TermWithin (term_in k n) → term_fits 16 k n ≡ true
term-within-fits zero n h w = grind (arith, nat_tests)
term-within-fits (suc zero) n h w = grind (arith, nat_tests)
term-within-fits (suc (suc k)) n h w = absurd (omega arith)

pub within-fits_terms : (ts : List Term) (xs : List ℕ) → WritesTerms xs ts → ((t : Term) → In t ts → TermWithin t) → terms_fit 16 (length ts) xs ≡ true
unfolding terms_fit terms_out
within-fits_terms [] xs e f = refl
within-fits_terms (Number n ∷ ts) xs e f =
    let g = front_two (length ts) 0 n (terms_out ts) xs e in
    and_from _ _ (rw (g.0, g.1) (term-within-fits 0 n (omega arith) (f (Number n) In.here))) (within-fits_terms ts (drop 2 xs) g.2 (λ t i. f t (In.there i)))
within-fits_terms (Variable x ∷ ts) xs e f =
    let g = front_two (length ts) 1 x (terms_out ts) xs e in
    and_from _ _ (rw (g.0, g.1) (term-within-fits 1 x (omega arith) (f (Variable x) In.here))) (within-fits_terms ts (drop 2 xs) g.2 (λ t i. f t (In.there i)))

pub within-fits-line : (xs : List ℕ) (l : Line) → WritesLine xs l → l.table < 4294967296 → TermsWithin l.cells → line_fits 16 xs ≡ true
unfolding line_fits
within-fits-line xs l w t c =
    let f : terms_fit 16 (get_or xs 1 0) (drop 2 xs) ≡ true = rw w.count (within-fits_terms l.cells (drop 2 xs) w.cells c.each) in
    let a : get_or xs 0 0 < 4294967296 = rw w.table t in
    let b : get_or xs 1 0 ≤ 4 = rw w.count c.few in
    grind (arith, nat_tests)

-- terms that fit are within the limits
pub fits-within-term : (k n : ℕ) → term_fits 16 k n ≡ true → TermWithin (term_in k n)
fits-within-term zero n e = grind (arith, nat_tests)
fits-within-term (suc k) n e = grind (arith, nat_tests)

pub fits-within_terms : (n : ℕ) (xs : List ℕ) → terms_fit 16 n xs ≡ true → (t : Term) → In t (terms_in n xs) → TermWithin t
unfolding terms_fit terms_in
fits-within_terms zero xs e t i = elim i [ ]
fits-within_terms (suc n) xs e t i =
    let f : (term_fits 16 (get_or xs 0 0) (get_or xs 1 0) ≡ true) × (terms_fit 16 n (drop 2 xs) ≡ true) = and_parts _ _ e in
    in_cases (TermWithin t) (λ p. subst (λ (u : Term). TermWithin u) p (fits-within-term (get_or xs 0 0) (get_or xs 1 0) f.0)) (λ j. fits-within_terms n (drop 2 xs) f.1 t j) i

pub fits-within-cells : (xs : List ℕ) → line_fits 16 xs ≡ true → TermsWithin (line_in xs).cells
fits-within-cells xs e =
    let f = line_fits-cells 16 xs e in
    record { few = rw (length-terms_in (get_or xs 1 0) (drop 2 xs)) f.1; each = fits-within_terms (get_or xs 1 0) (drop 2 xs) f.2 }

-- each of lines that fit is within the limits
pub record LineWithin (l : Line) : Type 0 where
  pub table : l.table < 4294967296
  pub cells : TermsWithin l.cells

pub fits-within-lines : (n : ℕ) (xs : List ℕ) → lines_fit 16 n xs ≡ true → (l : Line) → In l (lines_in n xs) → LineWithin l
unfolding lines_fit lines_in
fits-within-lines zero xs e l i = elim i [ ]
fits-within-lines (suc n) xs e l i =
    let f : (line_fits 16 xs ≡ true) × (lines_fit 16 n (drop 10 xs) ≡ true) = and_parts _ _ e in
    in_cases (LineWithin l) (λ p. subst (λ (m : Line). LineWithin m) p (record { table = (line_fits-cells 16 xs f.0).0; cells = fits-within-cells xs f.0 })) (λ j. fits-within-lines n (drop 10 xs) f.1 l j) i
