-- Terms and lines in lent numbers, cut into a list for each: what the layout says of the numbers holds of these lists.
use Rattle.std.proofs.Common.{◌≡◌, ℕ, zero, suc, ◌+◌, ◌*◌, ◌/◌, ◌<◌, ◌≤◌, true, Bool, ◌&&◌, List, [], ◌∷◌, ◌++◌, map, length, get_or, take, drop, min, Option, refl, ap, eq-eqb, ◌∙◌, ◌-◌, arith}
use Rattle.std.specs.List.{list_all, flat_map}
use Rattle.std.specs.Simd.{first_chunks}
use Rattle.std.proofs.lemmas.Bool.{and_parts, and_from, eqb-true}
use Rattle.std.proofs.lemmas.List.{get_or-take, take-take, length-take-le, length-drop, length-append, drop-drop, take_all}
use Rattle.std.proofs.lemmas.Slice.{between_is}
use Rattle.std.proofs.Math.Nat.{mul-div_cancel_left}
use Rattle.question.specs.declared.terms.Term.{Term}
use Rattle.question.specs.Layout.{pair_term, pair_fits, two_fit, terms_in, terms_fit, terms_out, line_in, line_fits, line_part, ten_fit, lines_in, lines_fit, line_out, lines_out}
use Rattle.question.specs.Check.{line_agrees, agrees, line_good, least_fault}
use Rattle.question.proofs.Fitting.{line_fits-take, line_fits-cells}
use Rattle.question.proofs.Decoding.{line_in-take, length-terms_in}
use Rattle.question.proofs.Written.{term_out_in}
use Rattle.question.proofs.Writing.{length-line_out}

terms_in-cut : (n : ℕ) (xs : List ℕ) → map pair_term (first_chunks 2 n xs) ≡ terms_in n xs
unfolding terms_in
terms_in-cut zero xs = refl
terms_in-cut (suc n) xs = rw (get_or-take 2 xs 0 0 (omega arith), get_or-take 2 xs 1 0 (omega arith), terms_in-cut n (drop 2 xs))

-- whether terms fit, pair by pair
pub terms_fit-pairs : (limit n : ℕ) (xs : List ℕ) → list_all (pair_fits limit) (first_chunks 2 n xs) ≡ terms_fit limit n xs
unfolding terms_fit
terms_fit-pairs limit zero xs = refl
terms_fit-pairs limit (suc n) xs = rw (get_or-take 2 xs 0 0 (omega arith), get_or-take 2 xs 1 0 (omega arith), terms_fit-pairs limit n (drop 2 xs))

terms_fit-cut : (limit n : ℕ) (xs : List ℕ) → 2 * n ≤ length xs → terms_fit limit n xs ≡ true → list_all (two_fit limit) (first_chunks 2 n xs) ≡ true
unfolding terms_fit
terms_fit-cut limit zero xs h e = refl
terms_fit-cut limit (suc n) xs h e =
    let p = and_parts _ _ e in
    let l : length (take 2 xs) ≡ 2 = length-take-le 2 xs (omega arith) in
    let f : pair_fits limit (take 2 xs) ≡ true = rw (get_or-take 2 xs 0 0 (omega arith), get_or-take 2 xs 1 0 (omega arith)) p.0 in
    and_from _ _ (and_from _ _ (eq-eqb _ _ l) f) (terms_fit-cut limit n (drop 2 xs) (omega (arith, length-drop 2 xs)) p.1)

lines_fit-cut : (limit n : ℕ) (xs : List ℕ) → 10 * n ≤ length xs → lines_fit limit n xs ≡ true → list_all (ten_fit limit) (first_chunks 10 n xs) ≡ true
unfolding lines_fit
lines_fit-cut limit zero xs h e = refl
lines_fit-cut limit (suc n) xs h e =
    let p = and_parts _ _ e in
    let l : length (take 10 xs) ≡ 10 = length-take-le 10 xs (omega arith) in
    and_from _ _ (and_from _ _ (eq-eqb _ _ l) (line_fits-take limit 10 xs (omega arith) ∙ p.0)) (lines_fit-cut limit n (drop 10 xs) (omega (arith, length-drop 10 xs)) p.1)

lines_in-cut : (limit n : ℕ) (xs : List ℕ) → lines_fit limit n xs ≡ true → map line_in (first_chunks 10 n xs) ≡ lines_in n xs
unfolding lines_in lines_fit
lines_in-cut limit zero xs e = refl
lines_in-cut limit (suc n) xs e =
    let p = and_parts _ _ e in
    rw (line_in-take 10 xs (omega arith) (line_fits-cells limit xs p.0).1, lines_in-cut limit n (drop 10 xs) p.1)

-- only the first n chunks count
chunks-take : (k n m : ℕ) (xs : List ℕ) → k * n ≤ m → first_chunks k n (take m xs) ≡ first_chunks k n xs
chunks-take k zero m xs h = refl
chunks-take k (suc n) m xs h =
    let a : k ≤ m = omega arith in
    let b : k * n ≤ m - k = omega arith in
    rw (take-take k m xs a, ← between_is xs k m, chunks-take k n (m - k) (drop k xs) b)

-- the first n chunks are all that the first k * n numbers have
pub all-chunks : (k n : ℕ) (xs : List ℕ) → 0 < k → k * n ≤ length xs → first_chunks k (length (take (k * n) xs) / k) (take (k * n) xs) ≡ first_chunks k n xs
all-chunks k n xs h l =
    let e : length (take (k * n) xs) ≡ k * n = length-take-le _ _ l in
    rw (e, mul-div_cancel_left n h, chunks-take k n (k * n) xs (omega arith))

pub all_terms-cut : (limit n : ℕ) (xs : List ℕ) (ps : List (List ℕ)) → 2 * n ≤ length xs
    → ps ≡ first_chunks 2 (length (take (2 * n) xs) / 2) (take (2 * n) xs) → list_all (pair_fits limit) ps ≡ terms_fit limit n xs
all_terms-cut limit n xs ps h e = rw (e, all-chunks 2 n xs (omega arith) h) (terms_fit-pairs limit n xs)

pub terms-cut : (limit n : ℕ) (xs : List ℕ) (ps : List (List ℕ)) → 2 * n ≤ length xs → terms_fit limit n xs ≡ true
    → ps ≡ first_chunks 2 (length (take (2 * n) xs) / 2) (take (2 * n) xs) → (list_all (two_fit limit) ps ≡ true) × (map pair_term ps ≡ terms_in n xs)
terms-cut limit n xs ps h f e = rw (e, all-chunks 2 n xs (omega arith) h) (terms_fit-cut limit n xs h f, terms_in-cut n xs)

pub lines-cut : (limit n : ℕ) (xs : List ℕ) (ps : List (List ℕ)) → 10 * n ≤ length xs → lines_fit limit n xs ≡ true
    → ps ≡ first_chunks 10 (length (take (10 * n) xs) / 10) (take (10 * n) xs) → (list_all (ten_fit limit) ps ≡ true) × (map line_in ps ≡ lines_in n xs)
lines-cut limit n xs ps h f e = rw (e, all-chunks 10 n xs (omega arith) h) (lines_fit-cut limit n xs h f, lines_in-cut limit n xs f)

-- terms that fit are written down as they lie
pub pairs-flat : (limit : ℕ) (ps : List (List ℕ)) → list_all (two_fit limit) ps ≡ true → flat_map (λ p. p) ps ≡ terms_out (map pair_term ps)
unfolding terms_out
pairs-flat limit [] f = refl
pairs-flat limit (p ∷ ps) f =
    let a = and_parts _ _ f in
    let b = and_parts _ _ a.0 in
    pair-flat limit p (map pair_term ps) (flat_map (λ q. q) ps) (eqb-true _ _ b.0) b.1 (pairs-flat limit ps a.1)
  where
    pair-flat : (limit : ℕ) (p : List ℕ) (ts : List Term) (ys : List ℕ) → length p ≡ 2 → pair_fits limit p ≡ true → ys ≡ terms_out ts → p ++ ys ≡ terms_out (pair_term p ∷ ts)
    pair-flat limit [] ts ys l g e = absurd (omega arith)
    pair-flat limit (a ∷ []) ts ys l g e = absurd (omega arith)
    pair-flat limit (a ∷ b ∷ []) ts ys l g e = rw (term_out_in limit a b ts g) (ap (λ (zs : List ℕ). a ∷ b ∷ zs) e)
    pair-flat limit (a ∷ b ∷ c ∷ p) ts ys l g e = absurd (omega arith)

-- a line that fits is no wider than four
pub line_few : (limit : ℕ) (xs : List ℕ) → line_fits limit xs ≡ true → length (line_in xs).cells ≤ 4
line_few limit xs e = rw (length-terms_in (get_or xs 1 0) (drop 2 xs)) (line_fits-cells limit xs e).1

-- lines that fit are ten numbers each, as they are written
pub lines-long : (limit : ℕ) (ps : List (List ℕ)) → list_all (ten_fit limit) ps ≡ true → length (lines_out (map line_in ps)) ≡ 10 * length (map line_in ps)
unfolding lines_out
lines-long limit [] f = refl
lines-long limit (p ∷ ps) f =
    let a = and_parts _ _ f in
    let e = lines-long limit ps a.1 in
    let few = line_few limit p (and_parts _ _ a.0).1 in
    length-append (line_out (line_in p)) (lines_out (map line_in ps)) ∙ omega (arith, length-line_out (line_in p) few, e)

-- a front of what fits fits
pub all-front : {A : Type 0} (f : A → Bool) (n : ℕ) (xs : List A) → list_all f xs ≡ true → list_all f (take n xs) ≡ true
all-front f zero xs e = refl
all-front f (suc n) [] e = refl
all-front f (suc n) (x ∷ xs) e = let p = and_parts _ _ e in and_from _ _ p.0 (all-front f n xs p.1)

-- the first n of more chunks, and the n-th
pub chunks-front : (k n m : ℕ) (xs : List ℕ) → n ≤ m → take n (first_chunks k m xs) ≡ first_chunks k n xs
chunks-front k zero m xs h = refl
chunks-front k (suc n) zero xs h = absurd (omega arith)
chunks-front k (suc n) (suc m) xs h = rw (chunks-front k n m (drop k xs) (omega arith))

pub length-chunks : (k n : ℕ) (xs : List ℕ) → length (first_chunks k n xs) ≡ n
length-chunks k zero xs = refl
length-chunks k (suc n) xs = ap suc (length-chunks k n (drop k xs))

pub chunk_at : (n i : ℕ) (xs : List ℕ) → i < n → get_or (first_chunks 10 n xs) i [] ≡ line_part i xs
unfolding line_part
chunk_at zero i xs h = absurd (omega arith)
chunk_at (suc n) zero xs h = refl
chunk_at (suc n) (suc i) xs h =
    let d : 10 * suc i ≡ 10 + 10 * i = omega arith in
    chunk_at n i (drop 10 xs) (omega arith) ∙ rw (d, drop-drop (10 * i) 10 xs) refl

-- whether lines agree, line by line
pub agrees-cut : (n t w : ℕ) (xs : List ℕ) → list_all (line_agrees t w) (first_chunks 10 n xs) ≡ agrees n t w xs
unfolding agrees
agrees-cut zero t w xs = refl
agrees-cut (suc n) t w xs = rw (get_or-take 10 xs 0 0 (omega arith), get_or-take 10 xs 1 0 (omega arith), agrees-cut n t w (drop 10 xs))

-- a line behind i others that are lent is good
pub good-cut : (n i : ℕ) (xs : List ℕ) (ps : List (List ℕ)) (p : List ℕ) → i < n → ps ≡ first_chunks 10 n xs → p ≡ get_or ps i []
    → (line_fits 16 p && list_all (line_agrees (get_or p 0 0) (get_or p 1 0)) (take i ps)) ≡ line_good xs i
good-cut n i xs ps p h e f = rw (f, e, chunk_at n i xs h, chunks-front 10 i n xs (omega arith), agrees-cut i (get_or (line_part i xs) 0 0) (get_or (line_part i xs) 1 0) xs) refl

-- the least line at fault, of the lines of a question
first-fault : (m w : ℕ) (xs : List ℕ) (ps : List (List ℕ)) (o : Option ℕ) → 10 * m ≤ length xs → length xs ≤ w → ps ≡ first_chunks 10 (length (take w xs) / 10) (take w xs)
    → ((n : ℕ) (ys : List ℕ) → take m ps ≡ first_chunks 10 n ys → o ≡ least_fault ys n 0) → o ≡ least_fault xs m 0
first-fault m w xs ps o h k e f =
    let l : m ≤ length xs / 10 = omega arith in
    f m xs (rw (e, take_all w xs k) (chunks-front 10 m (length xs / 10) xs l))

pub fault-lent : (m w : ℕ) (xs : List ℕ) (ps : List (List ℕ)) (o : Option ℕ) → 50 ≤ length xs → m ≡ min (get_or xs 9 0) 4 → length xs ≤ w + 10
    → ps ≡ first_chunks 10 (length (take w (drop 10 xs)) / 10) (take w (drop 10 xs))
    → ((n : ℕ) (ys : List ℕ) → take m ps ≡ first_chunks 10 n ys → o ≡ least_fault ys n 0) → o ≡ least_fault (drop 10 xs) (min (get_or xs 9 0) 4) 0
fault-lent m w xs ps o h z k e f =
    let l = length-drop 10 xs in
    first-fault m w (drop 10 xs) ps o (omega (arith, l)) (omega (arith, l)) e f ∙ ap (λ n. least_fault (drop 10 xs) n 0) z
