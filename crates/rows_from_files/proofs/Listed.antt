-- The rows that stand in a room, as a list.
use Rattle.std.proofs.Common.{◌≡◌, ℕ, zero, suc, ◌+◌, ◌*◌, ◌<◌, List, ◌∷◌, length, take, drop, sym, refl, ap, ◌∙◌, subst, arith}
use Rattle.std.proofs.lemmas.List.{drop-drop}
use Rattle.question.specs.Question.{Row, In}
use Rattle.question.specs.Tables.{rows_in}
use Rattle.question.proofs.Members.{in_cases}
use Rattle.answer.specs.Answered.{row_in, Lower, Among}
use Rattle.rows_from_files.specs.Printed.{Rising}

pub length-rows : (n w : ℕ) (out : List ℕ) → length (rows_in n w out) ≡ n
unfolding rows_in
length-rows zero w out = refl
length-rows (suc n) w out = ap suc (length-rows n w (drop w out))

row-front : (w : ℕ) (out : List ℕ) → row_in w 0 out ≡ take w out
row-front w out = ap (λ (k : ℕ). take w (drop k out)) {x = 0 * w} {y = 0} (omega arith)

row-behind : (w i : ℕ) (out : List ℕ) → row_in w i (drop w out) ≡ row_in w (suc i) out
row-behind w i out = let e : w + i * w ≡ suc i * w = omega arith in ap (take w) (drop-drop (i * w) w out ∙ ap (λ (k : ℕ). drop k out) e)

-- each that stands is listed
pub listed : (n w : ℕ) (out : List ℕ) (i : ℕ) → i < n → In (row_in w i out) (rows_in n w out)
unfolding rows_in
listed zero w out i h = absurd (omega arith)
listed (suc n) w out zero h = subst (λ (r : Row). In r (take w out ∷ rows_in n w (drop w out))) (sym (row-front w out)) In.here
listed (suc n) w out (suc i) h =
    subst (λ (r : Row). In r (take w out ∷ rows_in n w (drop w out))) (row-behind w i out) (In.there (listed n w (drop w out) i (omega arith)))

pub among_listed : (n w : ℕ) (out : List ℕ) (r : Row) → Among w n out r → In r (rows_in n w out)
among_listed n w out r a = subst (λ (s : Row). In s (rows_in n w out)) a.is (listed n w out a.at a.inside)

-- each that is listed stands
pub listed_among : (n w : ℕ) (out : List ℕ) (r : Row) → In r (rows_in n w out) → Among w n out r
unfolding rows_in
listed_among zero w out r h = elim h [ ]
listed_among (suc n) w out r h = in_cases (Among w (suc n) out r) at_front (λ m. behind (listed_among n w (drop w out) r m)) h
  where
    at_front : take w out ≡ r → Among w (suc n) out r
    at_front e = record { at = 0; inside = omega arith; is = row-front w out ∙ e }

    behind : Among w n (drop w out) r → Among w (suc n) out r
    behind a = record { at = suc a.at; inside = let l = a.inside in omega (arith, l); is = sym (row-behind w a.at out) ∙ a.is }

-- what holds of each that stands holds of each that is listed
pub each-listed : (P : Row → Type 0) (n w : ℕ) (out : List ℕ) → ((i : ℕ) → i < n → P (row_in w i out)) → (r : Row) → In r (rows_in n w out) → P r
each-listed P n w out h r m = let a = listed_among n w out r m in subst P a.is (h a.at a.inside)

pub rising-listed : (v n w : ℕ) (out : List ℕ) → ((i j : ℕ) → i < j → j < n → Lower v (row_in w i out) (row_in w j out)) → Rising v (rows_in n w out)
unfolding rows_in
rising-listed v zero w out h = Rising.none_left
rising-listed v (suc n) w out h =
    Rising.and_row (each-listed (Lower v (take w out)) n w (drop w out) first) (rising-listed v n w (drop w out) others)
  where
    first : (i : ℕ) → i < n → Lower v (take w out) (row_in w i (drop w out))
    first i l = subst (λ (r : Row). Lower v r (row_in w i (drop w out))) (row-front w out) (subst (Lower v (row_in w 0 out)) (sym (row-behind w i out)) (h 0 (suc i) (omega arith) (omega arith)))

    others : (i j : ℕ) → i < j → j < n → Lower v (row_in w i (drop w out)) (row_in w j (drop w out))
    others i j l m = subst (λ (r : Row). Lower v r (row_in w j (drop w out))) (sym (row-behind w i out)) (subst (Lower v (row_in w (suc i) out)) (sym (row-behind w j out)) (h (suc i) (suc j) (omega arith) (omega arith)))
