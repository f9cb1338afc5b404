-- What the definitions of a fault say turn by turn: the next line, the one that stops, and the end.
use Rattle.std.proofs.Common.{◌≡◌, ℕ, zero, suc, ◌+◌, ◌-◌, ◌*◌, ◌<◌, ◌≤◌, Bool, true, false, cond, ◌&&◌, ltb, List, get_or, drop, Some, None, Option, sym, refl, ◌∙◌, arith}
use Rattle.std.proofs.lemmas.List.{drop-drop}
use Rattle.std.proofs.lemmas.Bool.{and_parts, and_from}
use Rattle.question.specs.Sound.{sound, vars, line_vars, all_in}
use Rattle.question.specs.Layout.{terms_in, lines_in, lines_fit, line_part, question_in}
use Rattle.question.proofs.Fitting.{line_fits-take}
use Rattle.question.proofs.Decoding.{length-lines_in}
use Rattle.question.specs.Check.{line_good, least_fault}

fault-more : (n i : ℕ) (xs : List ℕ) → i < n → least_fault xs (n - i) i ≡ cond (line_good xs i) (least_fault xs (n - (i + 1)) (i + 1)) (Some i)
unfolding least_fault
fault-more n i xs h = let e : n - i ≡ suc (n - (i + 1)) = omega arith in rw e

pub fault-next : (n i : ℕ) (xs : List ℕ) → i < n → line_good xs i ≡ true → least_fault xs (n - i) i ≡ least_fault xs (n - (i + 1)) (i + 1)
fault-next n i xs h e = simp e at (fault-more n i xs h)

pub fault_stop : (n i : ℕ) (xs : List ℕ) → i < n → line_good xs i ≡ false → least_fault xs (n - i) i ≡ Some i
fault_stop n i xs h e = simp e at (fault-more n i xs h)

pub fault_end : (n i : ℕ) (xs : List ℕ) → n ≤ i → least_fault xs (n - i) i ≡ None
unfolding least_fault
fault_end n i xs h = let e : n - i ≡ 0 = omega arith in rw e

-- where no line is at fault, all lines fit
pub cond-none : (b : Bool) (o : Option ℕ) (i : ℕ) → cond b o (Some i) ≡ None → (b ≡ true) × (o ≡ None)
cond-none true o i e = (refl, e)
cond-none false o i e = let z : ◌≡◌ {A = ℕ} 0 1 = cc e in absurd (omega arith)

fits-from : (n i : ℕ) (xs : List ℕ) → least_fault xs n i ≡ None → lines_fit 16 n (drop (10 * i) xs) ≡ true
unfolding least_fault lines_fit line_part
fits-from zero i xs e = refl
fits-from (suc n) i xs e =
    let p : (line_good xs i ≡ true) × (least_fault xs n (i + 1) ≡ None) = cond-none _ _ _ e in
    let d : 10 * i + 10 ≡ 10 * (i + 1) = omega arith in
    let more : lines_fit 16 n (drop 10 (drop (10 * i) xs)) ≡ true = rw (drop-drop 10 (10 * i) xs, d) (fits-from n (i + 1) xs p.1) in
    and_from _ _ (sym (line_fits-take 16 10 (drop (10 * i) xs) (omega arith)) ∙ (and_parts _ _ p.0).0) more

pub no_fault-fits : (n : ℕ) (xs : List ℕ) → least_fault xs n 0 ≡ None → lines_fit 16 n xs ≡ true
no_fault-fits n xs e = fits-from n 0 xs e

-- what sound says of a lent question
pub sound_lent : (xs : List ℕ) → sound (question_in xs) ≡ (ltb 0 (get_or xs 9 0) && all_in (vars (terms_in (get_or xs 0 0) (drop 1 xs))) (line_vars (lines_in (get_or xs 9 0) (drop 10 xs))))
unfolding sound question_in
sound_lent xs = rw (length-lines_in (get_or xs 9 0) (drop 10 xs))
