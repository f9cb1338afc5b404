-- What is written, part by part: terms with 0 behind them, a line, lines one after another, a question.
use Rattle.std.proofs.Common.{◌≡◌, ℕ, zero, suc, ◌+◌, ◌-◌, ◌*◌, ◌<◌, ◌≤◌, true, List, [], ◌∷◌, ◌++◌, length, get_or, take, drop, set, replicate, sym, refl, ap, ◌∙◌, arith}
use borrow.Rule.Slice.PartMut.{put_mid}
use Rattle.std.proofs.lemmas.List.{append_assoc, append-nil, drop_all, drop_more, take_more, length-append, length-replicate}
use Rattle.std.proofs.lemmas.Bool.{and_parts}
use Rattle.question.specs.declared.terms.Term.{Term}
use Rattle.question.specs.declared.terms.Term.TheVariants.{Number, Variable}
use Rattle.question.specs.Question.{Line}
use Rattle.question.specs.Layout.{terms_in, terms_fit, line_in, line_fits, lines_in, lines_fit, terms_out, padded, line_out, lines_out}
use Rattle.question.proofs.Fitting.{line_fits-cells}
use Rattle.question.proofs.Decoding.{length-terms_in}
use Rattle.question.proofs.Written.{fits_writes_terms}
use Rattle.question.proofs.Front.{front-put, front_set}

pub length-terms_out : (ts : List Term) → length (terms_out ts) ≡ 2 * length ts
unfolding terms_out
length-terms_out [] = refl
length-terms_out (Number n ∷ ts) = let e = length-terms_out ts in omega arith
length-terms_out (Variable x ∷ ts) = let e = length-terms_out ts in omega arith

pub length-padded : (n : ℕ) (xs : List ℕ) → length xs ≤ n → length (padded n xs) ≡ n
length-padded n xs h = length-append xs (replicate (n - length xs) 0) ∙ simp length-replicate (omega arith)

pub length-line_out : (l : Line) → length l.cells ≤ 4 → length (line_out l) ≡ 10
unfolding line_out
length-line_out l h = let e = length-padded 8 (terms_out l.cells) (rw (length-terms_out l.cells) (omega arith)) in omega arith

-- a front and 0s behind it fill the room
pub filled : (n k m : ℕ) (f out z : List ℕ) → length f ≡ n → n + k ≡ m → length out ≡ m → z ≡ replicate k 0 → put_mid n k (f ++ drop n out) z ≡ padded m f
filled n k m f out z e p l ez =
    let d : drop m out ≡ [] = drop_all m out (omega arith) in
    let r : k ≡ m - length f = omega arith in
    front-put n k m f out z e p ∙ rw (d, append-nil (f ++ z), ez, r)

pub terms_written : (n : ℕ) (terms out f z : List ℕ) → n ≤ 4 → 2 * n ≤ length terms → terms_fit 256 n terms ≡ true → length out ≡ 8 → f ≡ take (2 * n) terms → z ≡ replicate (8 - 2 * n) 0
    → put_mid (2 * n) (8 - 2 * n) (f ++ drop (2 * n) out) z ≡ padded 8 (terms_out (terms_in n terms))
terms_written n terms out f z h b e l ef ez =
    let g : f ≡ terms_out (terms_in n terms) = ef ∙ fits_writes_terms 256 n terms b e in
    let k : length f ≡ 2 * n = ap length g ∙ length-terms_out (terms_in n terms) ∙ ap (λ (i : ℕ). 2 * i) (length-terms_in n terms) in
    filled (2 * n) (8 - 2 * n) 8 f out z k (omega arith) l ez ∙ ap (padded 8) g

-- two numbers and the room behind them
pub two_and-room : (a b : ℕ) (out ys : List ℕ) → length out ≡ 10 → put_mid 2 8 (set (set out 0 a) 1 b) ys ≡ a ∷ b ∷ ys
two_and-room a b [] ys h = absurd (omega arith)
two_and-room a b (x ∷ []) ys h = absurd (omega arith)
two_and-room a b (x ∷ y ∷ zs) ys h = let d : drop 8 zs ≡ [] = drop_all 8 zs (omega arith) in rw (d, append-nil ys)

-- one line more
pub lines_out-append : (ls ms : List Line) → lines_out (ls ++ ms) ≡ lines_out ls ++ lines_out ms
unfolding lines_out
lines_out-append [] ms = refl
lines_out-append (l ∷ ls) ms = ap (λ (xs : List ℕ). line_out l ++ xs) (lines_out-append ls ms) ∙ sym (append_assoc (line_out l) (lines_out ls) (lines_out ms))

pub lines_out-more : (i : ℕ) (ls : List Line) (l : Line) → i < length ls → drop i ls ≡ l ∷ drop (i + 1) ls → lines_out (take (i + 1) ls) ≡ lines_out (take i ls) ++ line_out l
unfolding lines_out
lines_out-more i ls l h e =
    let g : get_or ls i l ≡ l = cc (drop_more ls i l h, e) in
    ap lines_out (take_more ls i l h ∙ ap (λ (m : Line). take i ls ++ m ∷ []) g) ∙ lines_out-append (take i ls) (l ∷ []) ∙ ap (λ (xs : List ℕ). lines_out (take i ls) ++ xs) (append-nil (line_out l))

-- the whole question
pub question_written : (w n : ℕ) (t ls out : List ℕ) → length t ≡ 8 → length ls ≡ 40 → 50 ≤ length out
    → put_mid 10 40 (set (put_mid 1 8 (set out 0 w) t) 9 n) ls ≡ ((w ∷ t) ++ (n ∷ ls)) ++ drop 50 out
question_written w n t ls out ht hl ho =
    let one : length (w ∷ []) ≡ 1 = refl in
    let nine : length ((w ∷ []) ++ t) ≡ 9 = omega arith in
    let ten : length (((w ∷ []) ++ t) ++ n ∷ []) ≡ 10 = simp length-append (omega arith) in
    let a : set out 0 w ≡ (w ∷ []) ++ drop 1 out = front_set 0 [] out w refl (omega arith) in
    let b : put_mid 1 8 (set out 0 w) t ≡ ((w ∷ []) ++ t) ++ drop 9 out = ap (λ (xs : List ℕ). put_mid 1 8 xs t) a ∙ front-put 1 8 9 (w ∷ []) out t one (omega arith) in
    let c : set (put_mid 1 8 (set out 0 w) t) 9 n ≡ (((w ∷ []) ++ t) ++ n ∷ []) ++ drop 10 out = ap (λ (xs : List ℕ). set xs 9 n) b ∙ front_set 9 ((w ∷ []) ++ t) out n nine (omega arith) in
    ap (λ (xs : List ℕ). put_mid 10 40 xs ls) c ∙ front-put 10 40 50 (((w ∷ []) ++ t) ++ n ∷ []) out ls ten (omega arith) ∙ simp append_assoc

-- one turn of writing lines: the front has grown by a line
pub line-more : (i k : ℕ) (ls : List Line) (l : Line) (out now : List ℕ) → i < length ls → drop i ls ≡ l ∷ drop (i + 1) ls → length l.cells ≤ 4 → k ≡ 10
    → (length (lines_out (take i ls)) ≡ 10 * i) × (now ≡ lines_out (take i ls) ++ drop (10 * i) out)
    → (length (lines_out (take (i + 1) ls)) ≡ 10 * (i + 1)) × (put_mid (10 * i) k now (line_out l) ≡ lines_out (take (i + 1) ls) ++ drop (10 * (i + 1)) out)
line-more i k ls l out now h e few ten inv =
    let m : lines_out (take (i + 1) ls) ≡ lines_out (take i ls) ++ line_out l = lines_out-more i ls l h e in
    let a : length (lines_out (take (i + 1) ls)) ≡ 10 * (i + 1) = ap length m ∙ length-append (lines_out (take i ls)) (line_out l) ∙ omega (arith, inv.0, length-line_out l few) in
    (a, ap (λ (xs : List ℕ). put_mid (10 * i) k xs (line_out l)) inv.1 ∙ front-put (10 * i) k (10 * (i + 1)) (lines_out (take i ls)) out (line_out l) inv.0 (omega arith) ∙ ap (λ (xs : List ℕ). xs ++ drop (10 * (i + 1)) out) (sym m))

-- how long n lines are, as they are written
pub length-lines_out : (limit n : ℕ) (xs : List ℕ) → lines_fit limit n xs ≡ true → length (lines_out (lines_in n xs)) ≡ 10 * n
unfolding lines_fit lines_in lines_out
length-lines_out limit zero xs e = refl
length-lines_out limit (suc n) xs e =
    let f : (line_fits limit xs ≡ true) × (lines_fit limit n (drop 10 xs) ≡ true) = and_parts _ _ e in
    let few : length (line_in xs).cells ≤ 4 = rw (length-terms_in (get_or xs 1 0) (drop 2 xs)) (line_fits-cells limit xs f.0).1 in
    length-append (line_out (line_in xs)) (lines_out (lines_in n (drop 10 xs))) ∙ omega (arith, length-line_out (line_in xs) few, length-lines_out limit n (drop 10 xs) f.1)
