-- A question's own tables: what stands there can be read back as a reading.
use Rattle.std.proofs.Common.{◌≡◌, ℕ, Bool, true, false, cond, eqb, List, [], ◌∷◌, map, sym, refl, ap, ◌∙◌, subst, ap₂, eq-eqb, ne_eqb, eqb-true}
use borrow.Author.Tests.{clash}
use Rattle.question.specs.declared.terms.Term.{Term}
use Rattle.question.specs.declared.terms.Term.TheVariants.{Number, Variable}
use Rattle.question.specs.Question.{Line, Question, Row, Value, all_at, In, Stand, Answers}
use Rattle.question.specs.Sound.{vars, line_vars}
use Rattle.question.specs.Laws.{Names}
use Rattle.question.proofs.Members.{in_left, in_right, in_cases, in_vars, vars-used}
use Rattle.question.proofs.Places.{line_path}
use Rattle.containment.specs.Reading.{all_put, line_put, Into, Reads}
use Rattle.containment.specs.OwnTables.{rows_of, own_tables, question_vars, ToldApart, Avoids}

-- the term that a number stands for, where the variables xs are named by v
unfoldable pub read_back : Value → List ℕ → ℕ → Term
read_back v [] n = Number n
read_back v (x ∷ xs) n = cond (eqb (v x) n) (Variable x) (read_back v xs n)

pub back-number : (v : Value) (xs : List ℕ) (n : ℕ) → ((x : ℕ) → In x xs → v x ≡ n → ⊥) → read_back v xs n ≡ Number n
unfolding read_back
back-number v [] n f = refl
back-number v (x ∷ xs) n f = ap (λ (b : Bool). cond b (Variable x) (read_back v xs n)) (ne_eqb (v x) n (f x In.here)) ∙ back-number v xs n (λ y i. f y (In.there i))

pub back_variable : (v : Value) (x : ℕ) (xs : List ℕ) → ((y : ℕ) → In y xs → v y ≡ v x → y ≡ x) → In x xs → read_back v xs (v x) ≡ Variable x
unfolding read_back
back_variable v x [] d i = elim i [ ]
back_variable v x (y ∷ xs) d i = go (eqb (v y) (v x)) refl i (λ j. back_variable v x xs (λ z k. d z (In.there k)) j)
  where
    go : (b : Bool) → eqb (v y) (v x) ≡ b → In x (y ∷ xs) → (In x xs → read_back v xs (v x) ≡ Variable x) → cond b (Variable y) (read_back v xs (v x)) ≡ Variable x
    go true e i f = ap Variable (d y In.here (eqb-true _ _ e))
    go false e i f = in_cases _ (λ p. absurd (clash (sym e ∙ eq-eqb (v y) (v x) (ap v p)))) f i

-- different variables among xs are named differently
abbrev pub Different : Value → List ℕ → Type 0
Different v xs = (x y : ℕ) → In x xs → In y xs → v x ≡ v y → x ≡ y

-- no variable among xs is named as a number that stands among the terms
abbrev pub Past : Value → List ℕ → List Term → Type 0
Past v xs ts = (x : ℕ) → In x xs → In (Number (v x)) ts → ⊥

pub past_row : (v : Value) (p q : Question) → Avoids v p q → Past v (question_vars p) q.row
past_row v p q a x k i = a x k (Names.in_row i)

pub past_line : (v : Value) (p q : Question) → Avoids v p q → (l : Line) → In l q.lines → Past v (question_vars p) l.cells
past_line v p q a l j x k i = a x k (Names.in_line j i)

past_head : (v : Value) (xs : List ℕ) (n : ℕ) (ts : List Term) → Past v xs (Number n ∷ ts) → (x : ℕ) → In x xs → v x ≡ n → ⊥
past_head v xs n ts a x k e = a x k (subst (λ (m : ℕ). In (Number (v x)) (Number m ∷ ts)) e In.here)

past_tail : (v : Value) (xs : List ℕ) (t : Term) (ts : List Term) → Past v xs (t ∷ ts) → Past v xs ts
past_tail v xs t ts a x k i = a x k (In.there i)

pub backs_own : (v : Value) (xs : List ℕ) (ts : List Term) → Different v xs → Past v xs ts → ((x : ℕ) → In (Variable x) ts → In x xs) → map (read_back v xs) (all_at v ts) ≡ ts
unfolding all_at
backs_own v xs [] d a f = refl
backs_own v xs (Number n ∷ ts) d a f = ap₂ {C = List Term} (λ t r. t ∷ r) (back-number v xs n (past_head v xs n ts a)) (backs_own v xs ts d (past_tail v xs (Number n) ts a) (λ x i. f x (In.there i)))
backs_own v xs (Variable y ∷ ts) d a f = ap₂ {C = List Term} (λ t r. t ∷ r) (back_variable v y xs (λ x i. d x y i (f y In.here)) (f y In.here)) (backs_own v xs ts d (past_tail v xs (Variable y) ts a) (λ x i. f x (In.there i)))

-- what a value gives each variable, read back
abbrev pub reading : Value → List ℕ → Value → ℕ → Term
reading v xs u x = read_back v xs (u x)

pub backs_at : (v : Value) (xs : List ℕ) (u : Value) (ts : List Term) → Past v xs ts → all_put (reading v xs u) ts ≡ map (read_back v xs) (all_at u ts)
unfolding all_at all_put
backs_at v xs u [] a = refl
backs_at v xs u (Number n ∷ ts) a = ap₂ {C = List Term} (λ t r. t ∷ r) (sym (back-number v xs n (past_head v xs n ts a))) (backs_at v xs u ts (past_tail v xs (Number n) ts a))
backs_at v xs u (Variable x ∷ ts) a = ap {B = List Term} (λ r. read_back v xs (u x) ∷ r) (backs_at v xs u ts (past_tail v xs (Variable x) ts a))

-- a row of the own tables comes from a line
pub record Comes (v : Value) (t : ℕ) (ls : List Line) (s : Row) : Type 0 where
  pub from : Line
  pub is_in : In from ls
  pub table_is : from.table ≡ t
  pub row_is : all_at v from.cells ≡ s

comes_later : {v : Value} {t : ℕ} {ls : List Line} {s : Row} (l : Line) → Comes v t ls s → Comes v t (l ∷ ls) s
comes_later l c = record { from = c.from; is_in = In.there c.is_in; table_is = c.table_is; row_is = c.row_is }

comes_step : (v : Value) (t : ℕ) (l : Line) (ls : List Line) (s : Row) → (In s (rows_of v t ls) → Comes v t ls s) → (c : Bool) → eqb l.table t ≡ c
    → In s (cond c (all_at v l.cells ∷ rows_of v t ls) (rows_of v t ls)) → Comes v t (l ∷ ls) s
comes_step v t l ls s f true e j = in_cases _ (λ p. record { from = l; is_in = In.here; table_is = eqb-true _ _ e; row_is = p }) (λ k. comes_later l (f k)) j
comes_step v t l ls s f false e j = comes_later l (f j)

pub comes : (v : Value) (t : ℕ) (ls : List Line) (s : Row) → In s (rows_of v t ls) → Comes v t ls s
unfolding rows_of
comes v t [] s i = elim i [ ]
comes v t (l ∷ ls) s i = comes_step v t l ls s (λ j. comes v t ls s j) (eqb l.table t) refl i

pub row_var : (q : Question) (x : ℕ) → In (Variable x) q.row → In x (question_vars q)
unfolding question_vars
row_var q x i = in_left (line_vars q.lines) (in_vars i)

pub line_var : (q : Question) (l : Line) → In l q.lines → (x : ℕ) → In (Variable x) l.cells → In x (question_vars q)
unfolding question_vars
line_var q l j x i = in_right (vars q.row) (vars-used j i)

module _ (v : Value) (q : Question) (d : ToldApart v q) (aq : Avoids v q q) where
  pub back-line : (u : Value) (m : Line) → Past v (question_vars q) m.cells → In (all_at u m.cells) (own_tables v q m.table) → In (line_put (reading v (question_vars q) u) m) q.lines
  unfolding own_tables line_put
  back-line u m am i =
      let xs : List ℕ = question_vars q in
      let c : Comes v m.table q.lines (all_at u m.cells) = comes v m.table q.lines _ i in
      let e : c.from.cells ≡ all_put (reading v xs u) m.cells
      = sym (backs_own v xs c.from.cells d (past_line v q q aq c.from c.is_in) (line_var q c.from c.is_in)) ∙ ap (map (read_back v xs)) c.row_is ∙ sym (backs_at v xs u m.cells am) in
      subst (λ (x : Line). In x q.lines) (line_path c.from (line_put (reading v xs u) m) c.table_is e) c.is_in

  pub back-lines : (u : Value) (ls : List Line) → ((l : Line) → In l ls → Past v (question_vars q) l.cells) → Stand (own_tables v q) u ls → Into (reading v (question_vars q) u) q.lines ls
  back-lines u [] al Stand.none_left = Into.none_left
  back-lines u (l ∷ ls) al (Stand.and_line i st) = Into.and_line (back-line u l (al l In.here) i) (back-lines u ls (λ m j. al m (In.there j)) st)

  -- what the own tables answer is a reading into the question's lines
  pub back-reads : (p : Question) (r : Row) → Avoids v q p → Answers (own_tables v q) p r → Reads p (record { row = map (read_back v (question_vars q)) r; lines = q.lines })
  back-reads p r ap' a =
      record {
        how = reading v (question_vars q) a.value;
        lines = back-lines a.value p.lines (past_line v q p ap') a.stand;
        row = backs_at v (question_vars q) a.value p.row (past_row v q p ap') ∙ ap (map (read_back v (question_vars q))) a.is;
      }

  -- the question's own row, read back
  pub back-own-row : map (read_back v (question_vars q)) (all_at v q.row) ≡ q.row
  back-own-row = backs_own v (question_vars q) q.row d (past_row v q q aq) (row_var q)

-- a question answers its own row from its own tables
in_cond : (b : Bool) (s r : Row) (rs : List Row) → In s rs → In s (cond b (r ∷ rs) rs)
in_cond true s r rs i = In.there i
in_cond false s r rs i = i

pub rows_in : (v : Value) {m : Line} {ls : List Line} → In m ls → In (all_at v m.cells) (rows_of v m.table ls)
unfolding rows_of
rows_in v {m} (In.here {xs = ls}) =
    subst (λ (b : Bool). In (all_at v m.cells) (cond b (all_at v m.cells ∷ rows_of v m.table ls) (rows_of v m.table ls))) (sym (eq-eqb m.table m.table refl)) In.here
rows_in v {m} (In.there {x = l} a) = in_cond (eqb l.table m.table) _ _ _ (rows_in v a)

own-stand : (v : Value) (q : Question) (ls : List Line) → ((m : Line) → In m ls → In m q.lines) → Stand (own_tables v q) v ls
unfolding own_tables
own-stand v q [] f = Stand.none_left
own-stand v q (l ∷ ls) f = Stand.and_line (rows_in v (f l In.here)) (own-stand v q ls (λ m a. f m (In.there a)))

pub own_answers : (v : Value) (q : Question) → Answers (own_tables v q) q (all_at v q.row)
own_answers v q = record { value = v; stand = own-stand v q q.lines (λ m a. a); is = refl }

-- a question that answers another's own row from its own tables can be read into it
pub answers_reads : (p q : Question) (v : Value) → ToldApart v p → Avoids v p p → Avoids v p q → Answers (own_tables v p) q (all_at v p.row) → Reads q p
answers_reads p q v d mp mq a =
    let e : Reads q (record { row = map (read_back v (question_vars p)) (all_at v p.row); lines = p.lines }) = back-reads v p d mp q _ mq a in
    record { how = e.how; lines = e.lines; row = e.row ∙ back-own-row v p d mp }
