-- What the tests of the layout say of a part of the numbers: the next term or line, and the end.
use Rattle.std.proofs.Common.{◌≡◌, ℕ, zero, suc, ◌+◌, ◌-◌, ◌*◌, ◌<◌, ◌≤◌, true, ◌&&◌, leb, List, get_or, take, drop, refl, ◌∙◌, inl, inr, arith}
use Rattle.std.proofs.lemmas.Bool.Decides.{leb_tells, nat_tests}
use Rattle.std.proofs.lemmas.Bool.{and_parts, and_from}
use Rattle.std.proofs.lemmas.List.{get_or-take, get_or-drop, drop-drop}
use Rattle.std.proofs.lemmas.Slice.{between_is}
use Rattle.question.specs.Layout.{term_fits, terms_fit, line_fits, lines_fit, line_part}

-- only the first 2 * n numbers count
pub terms_fit-take : (limit n m : ℕ) (xs : List ℕ) → 2 * n ≤ m → terms_fit limit n (take m xs) ≡ terms_fit limit n xs
unfolding terms_fit
terms_fit-take limit zero m xs h = refl
terms_fit-take limit (suc n) m xs h =
    let a : 0 < m = omega arith in
    let b : 1 < m = omega arith in
    let k : 2 * n ≤ m - 2 = omega arith in
    rw (get_or-take m xs 0 0 a, get_or-take m xs 1 0 b, ← between_is xs 2 m, terms_fit-take limit n (m - 2) (drop 2 xs) k)

-- of a line only ten numbers count
pub few_terms_take : (limit n m : ℕ) (xs : List ℕ) → 8 ≤ m → (leb n 4 && terms_fit limit n (take m xs)) ≡ (leb n 4 && terms_fit limit n xs)
few_terms_take limit n m xs h = elim (leb_tells n 4) [ inl p ↦ rw (terms_fit-take limit n m xs (omega (arith, p.1))) | inr p ↦ rw p.0 ]

pub line_fits-take : (limit m : ℕ) (xs : List ℕ) → 10 ≤ m → line_fits limit (take m xs) ≡ line_fits limit xs
unfolding line_fits
line_fits-take limit m xs h =
    let a : 0 < m = omega arith in
    let b : 1 < m = omega arith in
    rw (get_or-take m xs 0 0 a, get_or-take m xs 1 0 b, ← between_is xs 2 m, few_terms_take limit (get_or xs 1 0) (m - 2) (drop 2 xs) (omega arith))

-- what fits, fits at each place
pub terms_fit-at : (limit n i : ℕ) (xs : List ℕ) → i < n → terms_fit limit n xs ≡ true → term_fits limit (get_or xs (2 * i) 0) (get_or xs (2 * i + 1) 0) ≡ true
unfolding terms_fit
terms_fit-at limit zero i xs h e = absurd (omega arith)
terms_fit-at limit (suc n) zero xs h e = (and_parts _ _ e).0
terms_fit-at limit (suc n) (suc i) xs h e =
    let a : 2 * suc i ≡ 2 + 2 * i = omega arith in
    let b : 2 * suc i + 1 ≡ 2 + (2 * i + 1) = omega arith in
    rw (b, a, ← get_or-drop 2 xs (2 * i) 0, ← get_or-drop 2 xs (2 * i + 1) 0) (terms_fit-at limit n i (drop 2 xs) (omega arith) (and_parts _ _ e).1)

pub lines-fit-at : (limit n i : ℕ) (xs : List ℕ) → i < n → lines_fit limit n xs ≡ true → line_fits limit (line_part i xs) ≡ true
unfolding lines_fit line_part
lines-fit-at limit zero i xs h e = absurd (omega arith)
lines-fit-at limit (suc n) zero xs h e = line_fits-take limit 10 xs (omega arith) ∙ (and_parts _ _ e).0
lines-fit-at limit (suc n) (suc i) xs h e =
    let a : 10 * suc i ≡ 10 + 10 * i = omega arith in
    rw (a, ← drop-drop (10 * i) 10 xs) (lines-fit-at limit n i (drop 10 xs) (omega arith) (and_parts _ _ e).1)

-- what a line that fits holds
pub line_fits-cells : (limit : ℕ) (xs : List ℕ) → line_fits limit xs ≡ true → (get_or xs 0 0 < 4294967296) × (get_or xs 1 0 ≤ 4) × (terms_fit limit (get_or xs 1 0) (drop 2 xs) ≡ true)
unfolding line_fits
line_fits-cells limit xs e = grind (arith, nat_tests)

-- with more variables, what fits still does
pub term_fits_wider : (a b kind n : ℕ) → a ≤ b → term_fits a kind n ≡ true → term_fits b kind n ≡ true
term_fits_wider a b kind n h e = grind (arith, nat_tests)

pub terms_fit_wider : (a b n : ℕ) (xs : List ℕ) → a ≤ b → terms_fit a n xs ≡ true → terms_fit b n xs ≡ true
unfolding terms_fit
terms_fit_wider a b zero xs h e = refl
terms_fit_wider a b (suc n) xs h e =
    and_from _ _ (term_fits_wider a b (get_or xs 0 0) (get_or xs 1 0) h (and_parts _ _ e).0) (terms_fit_wider a b n (drop 2 xs) h (and_parts _ _ e).1)

pub line_fits_wider : (a b : ℕ) (xs : List ℕ) → a ≤ b → line_fits a xs ≡ true → line_fits b xs ≡ true
unfolding line_fits
line_fits_wider a b xs h e = let f : terms_fit a (get_or xs 1 0) (drop 2 xs) ≡ true → terms_fit b (get_or xs 1 0) (drop 2 xs) ≡ true = terms_fit_wider a b (get_or xs 1 0) (drop 2 xs) h in grind (arith, nat_tests)

pub lines-fit_wider : (a b n : ℕ) (xs : List ℕ) → a ≤ b → lines_fit a n xs ≡ true → lines_fit b n xs ≡ true
unfolding lines_fit
lines-fit_wider a b zero xs h e = refl
lines-fit_wider a b (suc n) xs h e = and_from _ _ (line_fits_wider a b xs h (and_parts _ _ e).0) (lines-fit_wider a b n (drop 10 xs) h (and_parts _ _ e).1)
