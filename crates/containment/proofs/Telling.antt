-- What is told of two questions is so: the numbers in the room, and what they mean.
use Rattle.std.proofs.Common.{◌≡◌, ℕ, ◌<◌, ◌≤◌, true, false, cond, eqb, ltb, List, [], ◌∷◌, ◌++◌, length, get_or, drop, None, Ok, sym, refl, ap, ◌∙◌, ap₂, arith}
use borrow.Author.Tests.{clash}
use Rattle.question.specs.declared.terms.Term.TheVariants.{Variable}
use Rattle.question.specs.Question.{Line, Question, Row, Value, all_at, In, Within}
use Rattle.question.specs.Sound.{Allowed}
use Rattle.question.specs.Layout.{question_in, value_in}
use Rattle.question.specs.Check.{question_refusal}
use Rattle.question.proofs.Accepted.{allowed}
use Rattle.question.proofs.Parted.{long}
use Rattle.std.proofs.lemmas.Bool.Decides.{nat_tests}
use Rattle.containment.specs.declared.answer.Containment.TheVariants as answer
use Rattle.question.specs.Tables.{tables_in}
use Rattle.containment.specs.Reading.{Reads}
use Rattle.containment.specs.Search.{can_read}
use Rattle.containment.specs.OwnTables.{rows_of, Shown, naming}
use Rattle.containment.specs.OwnNumbers.{lines_once, cells_out, table_out, each_out, table_heads, tables_out}
use Rattle.containment.specs.Answer.{within_refusal, within_says, TellsApart}
use Rattle.containment.proofs.Readings.{all_at-same, reads-within}
use Rattle.containment.proofs.Searching.{can_read-reads, reads-can_read}
use Rattle.containment.proofs.Exactly.{within-reads, within_exact}
use Rattle.containment.proofs.Firsts.{firsts_in}
use Rattle.containment.proofs.OwnNumbers.{numbers_answer}

-- values that agree on the lines' variables write the same tables
rows_same : (u v : Value) (t : ℕ) (ls : List Line) → ((l : Line) → In l ls → all_at u l.cells ≡ all_at v l.cells) → rows_of u t ls ≡ rows_of v t ls
unfolding rows_of
rows_same u v t [] f = refl
rows_same u v t (l ∷ ls) f =
    ap₂ {C = List Row} (λ (r : Row) (rs : List Row). cond (eqb l.table t) (r ∷ rs) rs) (f l In.here) (rows_same u v t ls (λ m i. f m (In.there i)))

each_same : (u v : Value) (ls hs : List Line) → ((l : Line) → In l ls → all_at u l.cells ≡ all_at v l.cells) → each_out u ls hs ≡ each_out v ls hs
unfolding each_out table_out
each_same u v ls [] f = refl
each_same u v ls (h ∷ hs) f =
    ap₂ {C = List ℕ} (λ (rs : List Row) (xs : List ℕ). (h.table ∷ length rs ∷ length h.cells ∷ cells_out rs) ++ xs) (rows_same u v h.table ls f) (each_same u v ls hs f)

tables-same : (u v : Value) (q : Question) → ((l : Line) → In l q.lines → all_at u l.cells ≡ all_at v l.cells) → tables_out u q ≡ tables_out v q
unfolding tables_out lines_once
tables-same u v q f = ap (λ (xs : List ℕ). length (table_heads q.lines) ∷ xs) (each_same u v (lines_once q.lines) (table_heads q.lines) (λ l i. f l (firsts_in _ [] q.lines l i)))

-- the names as the program has them are enough
pub names_tables : (vs : List ℕ) (p q : Question) → Allowed p → ((x : ℕ) → x < 16 → get_or vs x 0 ≡ naming p q x) → tables_out (value_in vs) p ≡ tables_out (naming p q) p
names_tables vs p q a f = tables-same (value_in vs) (naming p q) p (λ l i. all_at-same (value_in vs) (naming p q) l.cells (λ x m. f x ((a.cells l i).each (Variable x) m)))

-- where the second can be read into the first, the first lies within it
pub told-within : (p q : Question) → can_read q p ≡ true → Within p q
told-within p q e = reads-within q p (can_read-reads q p e)

-- where it can't, the numbers show it
pub told-apart : (p q : Question) → Allowed p → can_read q p ≡ false → (more : List ℕ) → (Within p q → ⊥) × TellsApart (tables_in (tables_out (naming p q) p ++ more)) p q
told-apart p q a e more =
    let no-reading : Reads q p → ⊥ = λ r. clash (sym e ∙ reads-can_read q p r) in
    let s : Shown (naming p q) p q = (within_exact p q).1 no-reading in (
      λ w. no-reading (within-reads p q w),
      record {
        row = all_at (naming p q) p.row;
        answered = (numbers_answer (naming p q) p a.one_width more p (all_at (naming p q) p.row)).1 s.answered;
        not_answered = λ b. s.not_answered ((numbers_answer (naming p q) p a.one_width more q (all_at (naming p q) p.row)).0 b);
      },
    )

-- nothing is refused
unrefused : (first second room : List ℕ) → question_refusal first ≡ None → question_refusal second ≡ None → 64 ≤ length room → within_refusal first second room ≡ None
unrefused first second room a b h =
    let f : 50 ≤ length first = long first a in
    let s : 50 ≤ length second = long second b in
    let cf : ltb (length first) 50 ≡ false = grind (arith, nat_tests) in
    let cs : ltb (length second) 50 ≡ false = grind (arith, nat_tests) in
    let cr : ltb (length room) 64 ≡ false = grind (arith, nat_tests) in
    rw (cf, cs, a, b, cr)

-- what is said where the second can't be read into the first
pub says_apart : (first second room vs : List ℕ) → question_refusal first ≡ None → question_refusal second ≡ None → 64 ≤ length room → can_read (question_in second) (question_in first) ≡ false
    → ((x : ℕ) → x < 16 → get_or vs x 0 ≡ naming (question_in first) (question_in second) x)
    → within_says (within_refusal first second room) first second room
    ≡ (Ok (answer.Apart (length (tables_out (value_in vs) (question_in first)))), tables_out (value_in vs) (question_in first) ++ drop (length (tables_out (value_in vs) (question_in first))) room)
says_apart first second room vs a b h e f =
    rw (unrefused first second room a b h, e, names_tables vs (question_in first) (question_in second) (allowed first a) f)
