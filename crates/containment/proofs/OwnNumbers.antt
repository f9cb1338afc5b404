-- A question's own tables as numbers: what they hold, and how many they are.
use Rattle.std.proofs.Common.{◌≡◌, ℕ, suc, ◌+◌, ◌*◌, ◌≤◌, Bool, true, false, cond, eqb, List, [], ◌∷◌, ◌++◌, length, None, sym, refl, ap, ◌∙◌, subst, inl, inr, add-mul, arith, eq-eqb, eqb-true}
use borrow.Author.Tests.{eqb-false, clash}
use Rattle.std.proofs.lemmas.List.{append_assoc, length-append, take_at, drop_at}
use Rattle.question.specs.Question.{Line, Question, Row, Value, all_at, In}
use Rattle.question.specs.Sound.{OneWidth, Allowed}
use Rattle.question.specs.Layout.{question_in}
use Rattle.question.specs.Check.{question_refusal, IsQuestion}
use Rattle.question.specs.Tables.{rows_in, table_rows, tables_in}
use Rattle.question.proofs.Members.{in_left, in_right, in_split}
use Rattle.question.proofs.Front.{length-all_at}
use Rattle.question.proofs.Answering.{more_rows}
use Rattle.question.proofs.Accepted.{accepted}
use Rattle.question.proofs.Written.{writes_question_in}
use Rattle.containment.specs.OwnTables.{rows_of, own_tables}
use Rattle.containment.specs.OwnNumbers.{line_eqb, one_table, has_same, firsts, lines_once, table_heads, cells_out, table_out, each_out, tables_out}
use Rattle.containment.specs.ShownLaws.{NumbersHold, NumbersAnswer, NumbersFew}
use Rattle.containment.proofs.OwnTables as own
use Rattle.containment.proofs.Firsts.{Like, itself, its_table, tells_line, tells_table, firsts_in, firsts-like, length-firsts, has_push, has-table_of}

-- rows of one width, read back
rows_back : (c : ℕ) (rs : List Row) (more : List ℕ) → ((r : Row) → In r rs → length r ≡ c) → rows_in (length rs) c (cells_out rs ++ more) ≡ rs
unfolding rows_in cells_out
rows_back c [] more f = refl
rows_back c (r ∷ rs) more f =
    let e : length r ≡ c = f r In.here in
    rw (append_assoc r (cells_out rs) more, take_at r (cells_out rs ++ more) c e, drop_at r (cells_out rs ++ more) c e) (ap (λ (x : List Row). r ∷ x) (rows_back c rs more (λ s i. f s (In.there i))))

length-cells : (c : ℕ) (rs : List Row) → ((r : Row) → In r rs → length r ≡ c) → length (cells_out rs) ≡ length rs * c
unfolding cells_out
length-cells c [] f = omega arith
length-cells c (r ∷ rs) f =
    let e : length r ≡ c = f r In.here in
    length-append r (cells_out rs) ∙ omega (arith, length-cells c rs (λ s i. f s (In.there i)), add-mul 1 (length rs) c)

-- the rows of table t, table after table
picked : (v : Value) (ls : List Line) (t : ℕ) (hs : List Line) → List Row
picked v ls t [] = []
picked v ls t (h ∷ hs) = cond (eqb h.table t) (rows_of v h.table ls) [] ++ picked v ls t hs

-- each row of the table that h names is as wide as h
abbrev Wide : Value → List Line → Line → Type 0
Wide v ls h = (r : Row) → In r (rows_of v h.table ls) → length r ≡ length h.cells

tables-back : (v : Value) (ls : List Line) (t : ℕ) (hs : List Line) (more : List ℕ) → ((h : Line) → In h hs → Wide v ls h) → table_rows (length hs) t (each_out v ls hs ++ more) ≡ picked v ls t hs
unfolding table_rows each_out picked table_out
tables-back v ls t [] more f = refl
tables-back v ls t (h ∷ hs) more f =
    let rs : List Row = rows_of v h.table ls in
    let rest : List ℕ = each_out v ls hs ++ more in
    let w : Wide v ls h = f h In.here in
    let e : length (table_out v ls h) ≡ 3 + length rs * length h.cells = omega (arith, length-cells (length h.cells) rs w) in
    rw (append_assoc (cells_out rs) (each_out v ls hs) more, drop_at (table_out v ls h) rest (3 + length rs * length h.cells) e, rows_back (length h.cells) rs rest w, tables-back v ls t hs more (λ k i. f k (In.there i)))

-- what is picked are rows of the table, and all of them if the table has its line
picked_row : (v : Value) (ls : List Line) (t : ℕ) (hs : List Line) (r : Row) → In r (picked v ls t hs) → In r (rows_of v t ls)
unfolding picked
picked_row v ls t [] r i = elim i [ ]
picked_row v ls t (h ∷ hs) r i =
    elim (in_split (cond (eqb h.table t) (rows_of v h.table ls) []) (picked v ls t hs) i) [
      | inl a ↦ go (eqb h.table t) refl a
      | inr b ↦ picked_row v ls t hs r b
    ]
  where
    go : (b : Bool) → eqb h.table t ≡ b → In r (cond b (rows_of v h.table ls) []) → In r (rows_of v t ls)
    go true e a = subst (λ (u : ℕ). In r (rows_of v u ls)) (eqb-true h.table t e) a
    go false e a = elim a [ ]

row_picked : (v : Value) (ls : List Line) (t : ℕ) {h : Line} {hs : List Line} (r : Row) → h.table ≡ t → In r (rows_of v t ls) → In h hs → In r (picked v ls t hs)
unfolding picked
row_picked v ls t {h} r e a (In.here {xs = hs}) =
    let k : In r (cond (eqb h.table t) (rows_of v h.table ls) [])
    = subst (λ (b : Bool). In r (cond b (rows_of v h.table ls) [])) (sym (eq-eqb h.table t e)) (subst (λ (u : ℕ). In r (rows_of v u ls)) (sym e) a) in
    in_left (picked v ls t hs) k
row_picked v ls t r e a (In.there {x = k} i) = in_right (cond (eqb k.table t) (rows_of v k.table ls) []) (row_picked v ls t r e a i)

-- a row of a line is a row of its table
row_of : (v : Value) (t : ℕ) (ls : List Line) (m : Line) (r : Row) → In m ls → m.table ≡ t → all_at v m.cells ≡ r → In r (rows_of v t ls)
row_of v t ls m r i e p = subst (λ (s : Row). In s (rows_of v t ls)) p (subst (λ (u : ℕ). In (all_at v m.cells) (rows_of v u ls)) e (own.rows_in v i))

heads_wide : (v : Value) (q : Question) → OneWidth q.lines → (h : Line) → In h (table_heads q.lines) → Wide v (lines_once q.lines) h
unfolding table_heads lines_once
heads_wide v q w h i r j =
    let c : own.Comes v h.table (lines_once q.lines) r = own.comes v h.table (lines_once q.lines) r j in
    sym (ap length c.row_is) ∙ length-all_at v c.from.cells ∙ w c.from h (firsts_in line_eqb [] q.lines c.from c.is_in) (firsts_in one_table [] q.lines h i) c.table_is

pub numbers_hold : NumbersHold
unfolding tables_in tables_out own_tables lines_once table_heads
numbers_hold v q w more t r =
    let ls : List Line = q.lines in
    let back : tables_in (tables_out v q ++ more) t ≡ picked v (lines_once ls) t (table_heads ls) = tables-back v (lines_once ls) t (table_heads ls) more (heads_wide v q w) in (
      λ i.
          let c : own.Comes v t (lines_once ls) r = own.comes v t (lines_once ls) r (picked_row v (lines_once ls) t (table_heads ls) r (subst (λ (rs : List Row). In r rs) back i)) in
          row_of v t ls c.from r (firsts_in line_eqb [] ls c.from c.is_in) c.table_is c.row_is,
      λ i.
          let c : own.Comes v t ls r = own.comes v t ls r i in
          let l : Like itself c.from (lines_once ls) = firsts-like itself line_eqb tells_line ls c.from c.is_in in
          let h : Like its_table c.from (table_heads ls) = firsts-like its_table one_table tells_table ls c.from c.is_in in
          let a : In r (rows_of v t (lines_once ls)) = row_of v t (lines_once ls) l.line r l.is_in (ap its_table l.key_is ∙ c.table_is) (ap (λ (m : Line). all_at v m.cells) l.key_is ∙ c.row_is) in
          subst (λ (rs : List Row). In r rs) (sym back) (row_picked v (lines_once ls) t r (h.key_is ∙ c.table_is) a h.is_in),
    )

pub numbers_answer : NumbersAnswer
numbers_answer v q w more o r =
    (more_rows o (tables_in (tables_out v q ++ more)) (own_tables v q) r (λ t s. (numbers_hold v q w more t s).0), more_rows o (own_tables v q) (tables_in (tables_out v q ++ more)) r (λ t s. (numbers_hold v q w more t s).1))

-- how many lines there are whose table no line before names
left : (before ls : List Line) → ℕ
left before [] = 0
left before (l ∷ ls) = cond (has_same one_table before l) (left before ls) (suc (left before ls))

left-all : (ls : List Line) → left [] ls ≡ length ls
unfolding left has_same
left-all [] = refl
left-all (l ∷ ls) = ap suc (left-all ls)

-- one line more before takes away the rows of its table
left_fewer : (before : List Line) (l : Line) (ls : List Line) → left (before ++ l ∷ []) ls ≤ left before ls
unfolding left
left_fewer before l [] = omega arith
left_fewer before l (m ∷ ls) = rw (has_push one_table before l m) (go (has_same one_table before m) (one_table l m) (left_fewer before l ls))
  where
    go : (a b : Bool) → left (before ++ l ∷ []) ls ≤ left before ls
        → cond (cond a true b) (left (before ++ l ∷ []) ls) (suc (left (before ++ l ∷ []) ls)) ≤ cond a (left before ls) (suc (left before ls))
    go true b h = h
    go false true h = omega arith
    go false false h = omega arith

left-rows : (v : Value) (before : List Line) (l : Line) (ls : List Line) → has_same one_table before l ≡ false → length (rows_of v l.table ls) + left (before ++ l ∷ []) ls ≤ left before ls
unfolding left rows_of
left-rows v before l [] e = omega arith
left-rows v before l (m ∷ ls) e = rw (has_push one_table before l m) (go (eqb m.table l.table) (has_same one_table before m) (eqb l.table m.table) refl refl refl (left-rows v before l ls e))
  where
    rows : List Row
    rows = rows_of v l.table ls

    go : (a b d : Bool) → eqb m.table l.table ≡ a → has_same one_table before m ≡ b → eqb l.table m.table ≡ d → length rows + left (before ++ l ∷ []) ls ≤ left before ls
        → length (cond a (all_at v m.cells ∷ rows) rows) + cond (cond b true d) (left (before ++ l ∷ []) ls) (suc (left (before ++ l ∷ []) ls)) ≤ cond b (left before ls) (suc (left before ls))
    go true true d p q k h = absurd (clash (sym e ∙ sym (has-table_of before m l (eqb-true _ _ p)) ∙ q))
    go true false true p q k h = omega arith
    go true false false p q k h = absurd (eqb-false _ _ k (sym (eqb-true _ _ p)))
    go false true d p q k h = h
    go false false true p q k h = absurd (eqb-false _ _ p (sym (eqb-true _ _ k)))
    go false false false p q k h = omega arith

-- rows of at most four cells
few-cells : (rs : List Row) → ((r : Row) → In r rs → length r ≤ 4) → length (cells_out rs) ≤ 4 * length rs
unfolding cells_out
few-cells [] f = omega arith
few-cells (r ∷ rs) f = simp length-append (omega (arith, f r In.here, few-cells rs (λ s i. f s (In.there i))))

length-each : (v : Value) (os before ls : List Line) → ((t : ℕ) → length (cells_out (rows_of v t os)) ≤ 4 * length (rows_of v t os)) → length (each_out v os (firsts one_table before ls)) ≤ 3 * length ls + 4 * left before os
unfolding firsts each_out table_out
length-each v os before [] few = omega arith
length-each v os before (l ∷ ls) few = go (has_same one_table before l) refl (length-each v os (before ++ l ∷ []) ls few)
  where
    rest : List Line
    rest = firsts one_table (before ++ l ∷ []) ls

    go : (b : Bool) → has_same one_table before l ≡ b → length (each_out v os rest) ≤ 3 * length ls + 4 * left (before ++ l ∷ []) os
        → length (each_out v os (cond b rest (l ∷ rest))) ≤ 3 * suc (length ls) + 4 * left before os
    go true e h = omega (arith, left_fewer before l os)
    go false e h = simp length-append (omega (arith, left-rows v before l os e, few l.table))

pub numbers-few : NumbersFew
unfolding tables_out table_heads lines_once
numbers-few v q a =
    let os : List Line = lines_once q.lines in
    let few : (t : ℕ) → length (cells_out (rows_of v t os)) ≤ 4 * length (rows_of v t os)
    = λ t. few-cells (rows_of v t os) (λ r i.
    let c : own.Comes v t os r = own.comes v t os r i in
    subst (λ (s : Row). length s ≤ 4) c.row_is (rw (length-all_at v c.from.cells) (a.cells c.from (firsts_in line_eqb [] q.lines c.from c.is_in)).few)) in
    omega (arith, length-each v os [] q.lines few, left-all os, length-firsts line_eqb [] q.lines, a.few)

-- the same of a lent question
pub lent_few : (v : Value) (xs : List ℕ) → question_refusal xs ≡ None → length (tables_out v (question_in xs)) ≤ 29
lent_few v xs e =
    let a : IsQuestion xs = accepted xs e in
    numbers-few v (question_in xs) (subst (λ (q : Question). Allowed q) (sym (writes_question_in xs a.0 a.1)) a.2)
