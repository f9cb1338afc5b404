-- The parts of a question that is not turned away, as its parts are read.
use Rattle.std.proofs.Common.{◌≡◌, ℕ, ◌-◌, ◌*◌, ◌≤◌, true, List, length, get_or, take, drop, None, sym, refl, ap, arith}
use Rattle.std.proofs.lemmas.List.{take_all, length-drop}
use Rattle.question.specs.Layout.{terms_fit, lines_in, lines_fit, question_in}
use Rattle.question.specs.Check.{question_refusal}
use Rattle.question.proofs.Decoding.{length-terms_in, length-lines_in}
use Rattle.question.proofs.Accepted.{checked}

pub row_count : (xs : List ℕ) → question_refusal xs ≡ None → (get_or xs 0 0 ≡ length (question_in xs).row) × (get_or xs 0 0 ≤ 4)
unfolding question_in
row_count xs e = (sym (length-terms_in _ _), (checked xs e).narrow)

pub line-number : (xs : List ℕ) → question_refusal xs ≡ None → (get_or xs 9 0 ≡ length (question_in xs).lines) × (get_or xs 9 0 ≤ 4)
unfolding question_in
line-number xs e = (sym (length-lines_in _ _), (checked xs e).few)

pub long : (xs : List ℕ) → question_refusal xs ≡ None → 50 ≤ length xs
long xs e = (checked xs e).long

-- the numbers behind the tenth hold the lines
pub lines_lent : (xs : List ℕ) → question_refusal xs ≡ None
    → (lines_in (length (question_in xs).lines) (drop 10 xs) ≡ (question_in xs).lines) × (lines_fit 16 (length (question_in xs).lines) (drop 10 xs) ≡ true)
unfolding question_in
lines_lent xs e =
    let n = length-lines_in (get_or xs 9 0) (drop 10 xs) in
    (ap (λ (k : ℕ). lines_in k (drop 10 xs)) n, rw n (checked xs e).lines)

-- the parts behind the first number, which hold the row, and behind the tenth, which hold the lines
pub record LentRow (xs ys : List ℕ) : Type 0 where
  pub whole : ys ≡ drop 1 xs
  pub room : 2 * get_or xs 0 0 ≤ length ys
  pub fit : terms_fit 16 (get_or xs 0 0) ys ≡ true
  pub few : length (question_in xs).row ≤ 4

pub lent_row : (xs : List ℕ) → question_refusal xs ≡ None → LentRow xs (take (length xs - 1) (drop 1 xs))
unfolding question_in
lent_row xs e =
    let p = checked xs e in
    let w : take (length xs - 1) (drop 1 xs) ≡ drop 1 xs = take_all _ _ (omega (arith, length-drop 1 xs)) in
    rw w (record { whole = refl; room = omega (arith, p.long, p.narrow, length-drop 1 xs); fit = p.row; few = rw (length-terms_in (get_or xs 0 0) (drop 1 xs)) p.narrow })

pub record LentLines (xs ys : List ℕ) : Type 0 where
  pub whole : ys ≡ drop 10 xs
  pub room : 10 * get_or xs 9 0 ≤ length ys
  pub fit : lines_fit 16 (get_or xs 9 0) ys ≡ true
  pub few : length (question_in xs).lines ≤ 4

pub lent_lines : (xs : List ℕ) → question_refusal xs ≡ None → LentLines xs (take (length xs - 10) (drop 10 xs))
unfolding question_in
lent_lines xs e =
    let p = checked xs e in
    let w : take (length xs - 10) (drop 10 xs) ≡ drop 10 xs = take_all _ _ (omega (arith, length-drop 10 xs)) in
    rw w (record { whole = refl; room = omega (arith, p.long, p.few, length-drop 10 xs); fit = p.lines; few = rw (length-lines_in (get_or xs 9 0) (drop 10 xs)) p.few })
