-- Whether terms and lines name a number, turn by turn.
use Rattle.std.proofs.Common.{◌≡◌, ℕ, ◌+◌, ◌<◌, true, false, cond, ◌||◌, eqb, ◌≢◌, List, [], ◌∷◌, ◌++◌, length, get_or, set, refl, ap, ◌∙◌, arith, below_more}
use Rattle.std.proofs.lemmas.List.{get_or-set_same, get_or-set_other, length-set}
use Rattle.std.specs.List.{list_any}
use Rattle.question.specs.declared.terms.Term.{Term}
use Rattle.question.specs.declared.terms.Term.TheVariants.{Number, Variable}
use Rattle.question.specs.Question.{Line, Question}
use Rattle.question.specs.Sound.{has}
use Rattle.question.proofs.Standing.{has-append}
use Rattle.containment.specs.OwnTables.{numbers, line_numbers, question_numbers}

-- terms name the number if one of them, alone, does
pub names-any : (n : ℕ) (ts : List Term) → list_any (λ t. has (numbers (t ∷ [])) n) ts ≡ has (numbers ts) n
unfolding numbers has
names-any n [] = refl
names-any n (Variable x ∷ ts) = names-any n ts
names-any n (Number m ∷ ts) = elim (eqb m n) as (λ b. (cond b true false || list_any (λ t. has (numbers (t ∷ [])) n) ts) ≡ cond b true (has (numbers ts) n)) [ true ↦ refl | false ↦ names-any n ts ]

-- lines
pub names_line : (n : ℕ) (ls : List Line) (l : Line) (ms : List Line) → ls ≡ l ∷ ms → has (line_numbers ls) n ≡ cond (has (numbers l.cells) n) true (has (line_numbers ms) n)
unfolding line_numbers
names_line n ls l ms e = ap (λ (ns : List Line). has (line_numbers ns) n) e ∙ has-append (numbers l.cells) (line_numbers ms) n

pub names_no_line : (n : ℕ) (ls : List Line) → ls ≡ [] → has (line_numbers ls) n ≡ false
unfolding line_numbers has
names_no_line n ls e = rw e refl

-- a question, and two
pub names_question : (q : Question) (n : ℕ) → has (question_numbers q) n ≡ cond (has (numbers q.row) n) true (has (line_numbers q.lines) n)
unfolding question_numbers
names_question q n = has-append (numbers q.row) (line_numbers q.lines) n

pub names_two : (p q : Question) (n : ℕ) → has (question_numbers p ++ question_numbers q) n ≡ cond (has (question_numbers p) n) true (has (question_numbers q) n)
names_two p q n = has-append (question_numbers p) (question_numbers q) n

-- one name more in the list of names
pub one_name-more : (x n : ℕ) (vs : List ℕ) (v : ℕ → ℕ) → ((y : ℕ) → y < x → get_or vs y 0 ≡ v y) → length vs ≡ 16 → x < 16 → n ≡ v x
    → ((y : ℕ) → y < x + 1 → get_or (set vs x n) y 0 ≡ v y) × (length (set vs x n) ≡ 16)
one_name-more x n vs v f l h e = (
  below_more (λ y. get_or (set vs x n) y 0 ≡ v y) x
      (λ y k. let ne : y ≢ x = omega arith in get_or-set_other vs x y n 0 ne ∙ f y k)
      (get_or-set_same vs x n 0 (omega arith) ∙ e),
  length-set vs x n ∙ l,
)
