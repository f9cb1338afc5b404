-- What terms and lines that lie in numbers are: the next one, the end, how many, and each by its place.
use Rattle.std.proofs.Common.{◌≡◌, ℕ, zero, suc, ◌+◌, ◌-◌, ◌*◌, ◌<◌, ◌≤◌, true, List, ◌∷◌, length, get_or, take, drop, sym, refl, ap, ◌∙◌, ap₂, arith}
use Rattle.std.proofs.lemmas.List.{get_or-take, get_or-drop, drop-drop, length-take, length-drop}
use Rattle.std.proofs.lemmas.Slice.{between_is}
use Rattle.question.specs.declared.terms.Term.{Term}
use Rattle.question.specs.Question.{Line}
use Rattle.question.specs.Layout.{term_in, terms_in, line_in, lines_in, line_part, term_fits, terms_fit, line_fits, lines_fit}
use Rattle.question.proofs.Fitting.{terms_fit-at, line_fits-cells, lines-fit-at, line_fits-take}

pub length-terms_in : (n : ℕ) (xs : List ℕ) → length (terms_in n xs) ≡ n
unfolding terms_in
length-terms_in zero xs = refl
length-terms_in (suc n) xs = ap suc (length-terms_in n (drop 2 xs))

pub length-lines_in : (n : ℕ) (xs : List ℕ) → length (lines_in n xs) ≡ n
unfolding lines_in
length-lines_in zero xs = refl
length-lines_in (suc n) xs = ap suc (length-lines_in n (drop 10 xs))

-- only the first 2 * n numbers count, and of a line only ten
pub terms_in-take : (n m : ℕ) (xs : List ℕ) → 2 * n ≤ m → terms_in n (take m xs) ≡ terms_in n xs
unfolding terms_in
terms_in-take zero m xs h = refl
terms_in-take (suc n) m xs h =
    let a : 0 < m = omega arith in
    let b : 1 < m = omega arith in
    let k : 2 * n ≤ m - 2 = omega arith in
    rw (get_or-take m xs 0 0 a, get_or-take m xs 1 0 b, ← between_is xs 2 m, terms_in-take n (m - 2) (drop 2 xs) k)

pub line_in-take : (m : ℕ) (xs : List ℕ) → 10 ≤ m → get_or xs 1 0 ≤ 4 → line_in (take m xs) ≡ line_in xs
line_in-take m xs h w =
    let a : 0 < m = omega arith in
    let b : 1 < m = omega arith in
    let k : 2 * get_or xs 1 0 ≤ m - 2 = omega arith in
    rw (get_or-take m xs 0 0 a, get_or-take m xs 1 0 b, ← between_is xs 2 m, terms_in-take (get_or xs 1 0) (m - 2) (drop 2 xs) k)

-- the next term of n, and the next line
pub terms_in-more : (n i : ℕ) (xs : List ℕ) → i < n
    → terms_in (n - i) (drop (2 * i) xs) ≡ term_in (get_or xs (2 * i) 0) (get_or xs (2 * i + 1) 0) ∷ terms_in (n - (i + 1)) (drop (2 * (i + 1)) xs)
unfolding terms_in
terms_in-more n i xs h =
    let e : n - i ≡ suc (n - (i + 1)) = omega arith in
    let z : 2 * i + 0 ≡ 2 * i = omega arith in
    let d : 2 * i + 2 ≡ 2 * (i + 1) = omega arith in
    rw (e, get_or-drop (2 * i) xs 0 0, z, get_or-drop (2 * i) xs 1 0, drop-drop 2 (2 * i) xs, d)

pub lines_in-more : (n i : ℕ) (xs : List ℕ) → i < n
    → lines_in (n - i) (drop (10 * i) xs) ≡ line_in (drop (10 * i) xs) ∷ lines_in (n - (i + 1)) (drop (10 * (i + 1)) xs)
unfolding lines_in
lines_in-more n i xs h =
    let e : n - i ≡ suc (n - (i + 1)) = omega arith in
    let d : 10 * i + 10 ≡ 10 * (i + 1) = omega arith in
    rw (e, drop-drop 10 (10 * i) xs, d)

-- what is left of the terms and lines is what lies in the rest
pub drop-terms_in : (n i : ℕ) (xs : List ℕ) → drop i (terms_in n xs) ≡ terms_in (n - i) (drop (2 * i) xs)
unfolding terms_in
drop-terms_in n zero xs = let e : n - 0 ≡ n = omega arith in rw e
drop-terms_in zero (suc i) xs = let e : 0 - suc i ≡ 0 = omega arith in rw e
drop-terms_in (suc n) (suc i) xs =
    let e : suc n - suc i ≡ n - i = omega arith in
    let d : 2 * suc i ≡ 2 + 2 * i = omega arith in
    rw (e, d, ← drop-drop (2 * i) 2 xs) (drop-terms_in n i (drop 2 xs))

pub drop-lines_in : (n i : ℕ) (xs : List ℕ) → drop i (lines_in n xs) ≡ lines_in (n - i) (drop (10 * i) xs)
unfolding lines_in
drop-lines_in n zero xs = let e : n - 0 ≡ n = omega arith in rw e
drop-lines_in zero (suc i) xs = let e : 0 - suc i ≡ 0 = omega arith in rw e
drop-lines_in (suc n) (suc i) xs =
    let e : suc n - suc i ≡ n - i = omega arith in
    let d : 10 * suc i ≡ 10 + 10 * i = omega arith in
    rw (e, d, ← drop-drop (10 * i) 10 xs) (drop-lines_in n i (drop 10 xs))

-- one place more of the terms, and of the lines
pub terms_in-next : (n i : ℕ) (xs : List ℕ) → i < n → drop i (terms_in n xs) ≡ term_in (get_or xs (2 * i) 0) (get_or xs (2 * i + 1) 0) ∷ drop (i + 1) (terms_in n xs)
terms_in-next n i xs h = drop-terms_in n i xs ∙ terms_in-more n i xs h ∙ ap (λ (ts : List Term). term_in (get_or xs (2 * i) 0) (get_or xs (2 * i + 1) 0) ∷ ts) (sym (drop-terms_in n (i + 1) xs))

pub lines_in-next : (limit n i : ℕ) (xs : List ℕ) → i < n → lines_fit limit n xs ≡ true → drop i (lines_in n xs) ≡ line_in (line_part i xs) ∷ drop (i + 1) (lines_in n xs)
unfolding line_part
lines_in-next limit n i xs h f =
    let g : line_fits limit (drop (10 * i) xs) ≡ true = sym (line_fits-take limit 10 (drop (10 * i) xs) (omega arith)) ∙ lines-fit-at limit n i xs h f in
    let w : get_or (drop (10 * i) xs) 1 0 ≤ 4 = (line_fits-cells limit (drop (10 * i) xs) g).1 in
    drop-lines_in n i xs ∙ lines_in-more n i xs h ∙ ap₂ {C = List Line} (λ (l : Line) (ls : List Line). l ∷ ls) (sym (line_in-take 10 (drop (10 * i) xs) (omega arith) w)) (sym (drop-lines_in n (i + 1) xs))

-- the terms of a line or of the row, read in the eight numbers that are lent for them from k on
pub term_lent : (limit n k i : ℕ) (xs : List ℕ) → k + 8 ≤ length xs → n ≤ 4 → i < n → terms_fit limit n (drop k xs) ≡ true
    → (2 * i + 1 < length (take 8 (drop k xs))) × (term_fits limit (get_or (take 8 (drop k xs)) (2 * i) 0) (get_or (take 8 (drop k xs)) (2 * i + 1) 0) ≡ true)
term_lent limit n k i xs long few h f =
    let l : length (take 8 (drop k xs)) ≡ 8 = length-take 8 (drop k xs) ∙ simp length-drop (omega arith) in
    let a : 2 * i < 8 = omega arith in
    let b : 2 * i + 1 < 8 = omega arith in
    (rw l b, rw (get_or-take 8 (drop k xs) (2 * i) 0 a, get_or-take 8 (drop k xs) (2 * i + 1) 0 b) (terms_fit-at limit n i (drop k xs) h f))

pub term_lent_next : (n k i : ℕ) (xs : List ℕ) (t : Term) → n ≤ 4 → i < n → t ≡ term_in (get_or (take 8 (drop k xs)) (2 * i) 0) (get_or (take 8 (drop k xs)) (2 * i + 1) 0)
    → drop i (terms_in n (drop k xs)) ≡ t ∷ drop (i + 1) (terms_in n (drop k xs))
term_lent_next n k i xs t few h e =
    let a : 2 * i < 8 = omega arith in
    let b : 2 * i + 1 < 8 = omega arith in
    rw (e, get_or-take 8 (drop k xs) (2 * i) 0 a, get_or-take 8 (drop k xs) (2 * i + 1) 0 b) (terms_in-next n i (drop k xs) h)
