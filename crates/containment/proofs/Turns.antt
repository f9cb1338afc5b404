-- Going through lines, turn by turn: what is left to test, and what is left to write.
use Rattle.std.proofs.Common.{◌≡◌, ℕ, suc, ◌+◌, ◌-◌, ◌<◌, ◌≤◌, Bool, true, false, cond, not, eqb, List, [], ◌∷◌, ◌++◌, length, get_or, take, drop, set, sym, refl, ap, ◌∙◌, arith}
use borrow.Rule.Slice.PartMut.{put_mid}
use Rattle.std.proofs.lemmas.List.{append-nil, append_assoc, drop_all, drop_more, drop_at, drop-drop, take_more, take_at, take_all, take_rest, take-append-drop, length-append, length-drop, length-set, length-take-le}
use Rattle.question.specs.Question.{Line, Row, Value, all_at}
use Rattle.question.proofs.Coming.{next-dropped, next-below}
use Rattle.containment.specs.OwnTables.{rows_of}
use Rattle.containment.specs.OwnNumbers.{line_eqb, one_table, has_same, firsts, cells_out, table_out, each_out}

-- the lines before, one after another
pub has_first : (same : Line → Line → Bool) (ls : List Line) (m : Line) (ms : List Line) (l : Line) → ls ≡ m ∷ ms → same m l ≡ true → has_same same ls l ≡ true
unfolding has_same
has_first same ls m ms l p e = rw (p, e)

pub has_rest : (same : Line → Line → Bool) (ls : List Line) (m : Line) (ms : List Line) (l : Line) → ls ≡ m ∷ ms → same m l ≡ false → has_same same ls l ≡ has_same same ms l
unfolding has_same
has_rest same ls m ms l p e = rw (p, e)

pub has_none : (same : Line → Line → Bool) (ls : List Line) (l : Line) → ls ≡ [] → has_same same ls l ≡ false
unfolding has_same
has_none same ls l p = rw p

-- the first of the same lines, from the i-th on
firsts-next : (same : Line → Line → Bool) (i : ℕ) (ls : List Line) (l : Line) (ms : List Line) → drop i ls ≡ l ∷ ms
    → firsts same (take i ls) (drop i ls) ≡ cond (has_same same (take i ls) l) (firsts same (take (i + 1) ls) (drop (i + 1) ls)) (l ∷ firsts same (take (i + 1) ls) (drop (i + 1) ls))
unfolding firsts
firsts-next same i ls l ms e =
    let h : i < length ls = next-below i ls l ms e in
    let r : ms ≡ drop (i + 1) ls = next-dropped i ls l ms e in
    let f : drop i ls ≡ l ∷ drop (i + 1) ls = rw (← r) e in
    let g : get_or ls i l ≡ l = cc (drop_more ls i l h, f) in
    let t : take (i + 1) ls ≡ take i ls ++ l ∷ [] = take_more ls i l h ∙ ap (λ (m : Line). take i ls ++ m ∷ []) g in
    rw (f, t)

firsts_end : (same : Line → Line → Bool) (i : ℕ) (before ls : List Line) → drop i ls ≡ [] → firsts same before (drop i ls) ≡ []
unfolding firsts
firsts_end same i before ls h = rw h

-- the rows that are left of a table, from the i-th line on
abbrev pub rows_left : Value → ℕ → List Line → ℕ → List Row
rows_left v t ls i = rows_of v t (firsts line_eqb (take i ls) (drop i ls))

one_row : (v : Value) (t : ℕ) (l : Line) (rest : List Line) (a b : Bool) → eqb l.table t ≡ b
    → rows_of v t (cond a rest (l ∷ rest)) ≡ cond (cond b (not a) false) (all_at v l.cells ∷ rows_of v t rest) (rows_of v t rest)
unfolding rows_of
one_row v t l rest true true e = refl
one_row v t l rest true false e = refl
one_row v t l rest false true e = rw e
one_row v t l rest false false e = rw e

pub rows_next : (v : Value) (t i : ℕ) (ls : List Line) (l : Line) (ms : List Line) (gives : Bool) → drop i ls ≡ l ∷ ms → gives ≡ cond (eqb l.table t) (not (has_same line_eqb (take i ls) l)) false
    → rows_left v t ls i ≡ cond gives (all_at v l.cells ∷ rows_left v t ls (i + 1)) (rows_left v t ls (i + 1))
rows_next v t i ls l ms gives e g =
    let rest : List Line = firsts line_eqb (take (i + 1) ls) (drop (i + 1) ls) in
    ap (rows_of v t) (firsts-next line_eqb i ls l ms e) ∙ one_row v t l rest (has_same line_eqb (take i ls) l) (eqb l.table t) refl ∙ ap (λ (b : Bool). cond b (all_at v l.cells ∷ rows_of v t rest) (rows_of v t rest)) (sym g)

pub rows_end : (v : Value) (t i : ℕ) (ls : List Line) → drop i ls ≡ [] → rows_left v t ls i ≡ []
unfolding rows_of
rows_end v t i ls e = ap (rows_of v t) (firsts_end line_eqb i (take i ls) ls e)

-- the tables that are left, by the first line of each
abbrev pub heads_left : List Line → ℕ → List Line
heads_left ls i = firsts one_table (take i ls) (drop i ls)

pub heads_next : (i : ℕ) (ls : List Line) (l : Line) (ms : List Line) (named : Bool) → drop i ls ≡ l ∷ ms → named ≡ has_same one_table (take i ls) l
    → heads_left ls i ≡ cond named (heads_left ls (i + 1)) (l ∷ heads_left ls (i + 1))
heads_next i ls l ms named e g =
    let rest : List Line = firsts one_table (take (i + 1) ls) (drop (i + 1) ls) in
    firsts-next one_table i ls l ms e ∙ ap (λ (b : Bool). cond b rest (l ∷ rest)) (sym g)

pub heads_end : (i : ℕ) (ls : List Line) → drop i ls ≡ [] → heads_left ls i ≡ []
heads_end i ls e = firsts_end one_table i (take i ls) ls e

-- what is written from the front, a part more: ys go to a, and what was left was ys and the rest
pub record Written (whole rest entry room : List ℕ) (a : ℕ) : Type 0 where
  pub left : drop a whole ≡ rest
  pub front : room ≡ take a whole ++ drop a entry
  pub within : a ≤ length whole

pub written_more : (whole rest entry room ys part : List ℕ) (a k m : ℕ) → length whole ≤ length entry → length room ≡ length entry → Written whole (ys ++ rest) entry room a
    → k ≡ length ys → m ≡ length room - a → part ≡ ys ++ drop k (take m (drop a room)) → Written whole rest entry (put_mid a m room part) (a + k)
written_more whole rest entry room ys part a k m h same w e p q =
    let f : List ℕ = take a whole in
    let lf : length f ≡ a = length-take-le a whole w.within in
    let split : whole ≡ (f ++ ys) ++ rest = sym (take-append-drop a whole) ∙ ap (λ (xs : List ℕ). f ++ xs) w.left ∙ sym (append_assoc f ys rest) in
    let lg : length (f ++ ys) ≡ a + k = length-append f ys ∙ omega (arith, lf, e) in
    let tg : take (a + k) whole ≡ f ++ ys = ap (take (a + k)) split ∙ take_at (f ++ ys) rest (a + k) lg in
    let dg : drop (a + k) whole ≡ rest = ap (drop (a + k)) split ∙ drop_at (f ++ ys) rest (a + k) lg in
    let behind : drop a room ≡ drop a entry = ap (drop a) w.front ∙ drop_at f (drop a entry) a lf in
    let all : take m (drop a room) ≡ drop a entry = ap (λ (i : ℕ). take i (drop a room)) p ∙ take_rest room a ∙ behind in
    let part-is : part ≡ ys ++ drop (a + k) entry = q ∙ ap (λ (xs : List ℕ). ys ++ drop k xs) all ∙ ap (λ (xs : List ℕ). ys ++ xs) (drop-drop k a entry) in
    let none : drop m (drop a room) ≡ [] = drop_all m (drop a room) (simp length-drop (omega (arith, p))) in
    let before : take a room ≡ f = ap (take a) w.front ∙ take_at f (drop a entry) a lf in
    record {
      left = dg;
      front = rw (before, none, append-nil part, part-is, tg, append_assoc f ys (drop (a + k) entry));
      within = rw split (simp length-append (omega (arith, lf, e)));
    }

-- at the end all is written
pub written_all : (whole entry room : List ℕ) (a : ℕ) → Written whole [] entry room a → (a ≡ length whole) × (room ≡ whole ++ drop a entry)
written_all whole entry room a w =
    let e : a ≡ length whole = omega (arith, w.within, length-drop a whole, ap length w.left) in
    (e, w.front ∙ ap (λ (xs : List ℕ). xs ++ drop a entry) (take_all a whole (omega (arith, e))))

-- there is room for the next part
pub written_room : (whole rest entry room ys : List ℕ) (a : ℕ) → length whole ≤ length entry → length room ≡ length entry → Written whole (ys ++ rest) entry room a
    → (a + length ys ≤ length room) × (length ys ≤ length (take (length room - a) (drop a room)))
written_room whole rest entry room ys a h same w =
    let d : length whole - a ≡ length ys + length rest = sym (length-drop a whole) ∙ ap length w.left ∙ length-append ys rest in
    let k : a + length ys ≤ length room = omega (arith, d, w.within, h, same) in
    (k, rw (take_rest room a, length-drop a room) (omega (arith, k)))

-- what is left may be said otherwise
pub written_same : {whole rest more entry room : List ℕ} {a : ℕ} → rest ≡ more → Written whole rest entry room a → Written whole more entry room a
written_same e w = record { left = w.left ∙ e; front = w.front; within = w.within }

-- the next row, or none
pub rows-skip : (v : Value) (t i : ℕ) (ls : List Line) (l : Line) (ms : List Line) → drop i ls ≡ l ∷ ms → false ≡ cond (eqb l.table t) (not (has_same line_eqb (take i ls) l)) false
    → cells_out (rows_left v t ls i) ≡ cells_out (rows_left v t ls (i + 1))
rows-skip v t i ls l ms e g = ap cells_out (rows_next v t i ls l ms false e g)

pub rows_write : (v : Value) (t i : ℕ) (ls : List Line) (l : Line) (ms : List Line) → drop i ls ≡ l ∷ ms → true ≡ cond (eqb l.table t) (not (has_same line_eqb (take i ls) l)) false
    → cells_out (rows_left v t ls i) ≡ all_at v l.cells ++ cells_out (rows_left v t ls (i + 1))
unfolding cells_out
rows_write v t i ls l ms e g = ap cells_out (rows_next v t i ls l ms true e g)

-- the next table, or none
pub tables-skip : (v : Value) (os : List Line) (i : ℕ) (ls : List Line) (l : Line) (ms : List Line) → drop i ls ≡ l ∷ ms → true ≡ has_same one_table (take i ls) l
    → each_out v os (heads_left ls i) ≡ each_out v os (heads_left ls (i + 1))
tables-skip v os i ls l ms e g = ap (each_out v os) (heads_next i ls l ms true e g)

pub tables_write : (v : Value) (os : List Line) (i : ℕ) (ls : List Line) (l : Line) (ms : List Line) → drop i ls ≡ l ∷ ms → false ≡ has_same one_table (take i ls) l
    → each_out v os (heads_left ls i) ≡ table_out v os l ++ each_out v os (heads_left ls (i + 1))
unfolding each_out
tables_write v os i ls l ms e g = ap (each_out v os) (heads_next i ls l ms false e g)

-- one number and what is written behind it, and three numbers
pub one_and-more : (a : ℕ) (room ys part : List ℕ) (k m : ℕ) → 1 ≤ length room → m ≡ length room - 1 → part ≡ ys ++ drop k (take m (drop 1 (set room 0 a)))
    → put_mid 1 m (set room 0 a) part ≡ (a ∷ ys) ++ drop (1 + k) room
one_and-more a [] ys part k m h p q = absurd (omega arith)
one_and-more a (x ∷ xs) ys part k m h p q =
    let t : take m xs ≡ xs = take_all m xs (omega arith) in
    let d : drop m xs ≡ [] = drop_all m xs (omega arith) in
    let s : 1 + k ≡ suc k = omega arith in
    rw (d, append-nil part, q, t, s)

pub three-and-more : (a b c : ℕ) (room ys part : List ℕ) (k m : ℕ) → 3 ≤ length room → m ≡ length room - 3 → part ≡ ys ++ drop k (take m (drop 3 (set (set (set room 0 a) 1 b) 2 c)))
    → put_mid 3 m (set (set (set room 0 a) 1 b) 2 c) part ≡ (a ∷ b ∷ c ∷ ys) ++ drop (3 + k) room
three-and-more a b c [] ys part k m h p q = absurd (omega arith)
three-and-more a b c (x ∷ []) ys part k m h p q = absurd (omega arith)
three-and-more a b c (x ∷ y ∷ []) ys part k m h p q = absurd (omega arith)
three-and-more a b c (x ∷ y ∷ z ∷ xs) ys part k m h p q =
    let t : take m xs ≡ xs = take_all m xs (omega arith) in
    let d : drop m xs ≡ [] = drop_all m xs (omega arith) in
    let s : 3 + k ≡ suc (suc (suc k)) = omega arith in
    rw (d, append-nil part, q, t, s)

-- the room behind them
pub behind_one : (a : ℕ) (room : List ℕ) → length (take (length (set room 0 a) - 1) (drop 1 (set room 0 a))) ≡ length room - 1
behind_one a room = rw (take_rest (set room 0 a) 1, length-drop 1 (set room 0 a), length-set room 0 a)

pub behind-three : (a b c : ℕ) (room : List ℕ) → length (take (length (set (set (set room 0 a) 1 b) 2 c) - 3) (drop 3 (set (set (set room 0 a) 1 b) 2 c))) ≡ length room - 3
behind-three a b c room = rw (take_rest (set (set (set room 0 a) 1 b) 2 c) 3, length-drop 3 (set (set (set room 0 a) 1 b) 2 c)) (simp length-set)

-- how many numbers a table is, and the tables of a question
pub table-long : (v : Value) (os : List Line) (h : Line) (n : ℕ) → length (table_out v os h) ≤ n → 3 + length (cells_out (rows_of v h.table os)) ≤ n
unfolding table_out
table-long v os h n k = omega arith
