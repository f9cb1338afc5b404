-- The laws of what questions answer.
use Rattle.std.proofs.Common.{◌≡◌, ℕ, List, [], ◌∷◌, map, sym, refl, ap, ◌∙◌, subst, ap₂}
use Rattle.question.specs.declared.terms.Term.{Term}
use Rattle.question.specs.declared.terms.Term.TheVariants.{Number, Variable}
use Rattle.question.specs.Question.{Line, Row, Base, Value, all_at, In, Stand}
use Rattle.question.proofs.Places.{in_map}
use Rattle.question.specs.Laws.{MoreRows, Names, AnyNumbers}

stand-more : {b : Base} {v : Value} (c : Base) {ls : List Line} → ((t : ℕ) (s : Row) → In s (b t) → In s (c t)) → Stand b v ls → Stand c v ls
stand-more c f Stand.none_left = Stand.none_left
stand-more c f (Stand.and_line i s) = Stand.and_line (f _ _ i) (stand-more c f s)

pub more_rows : MoreRows
more_rows q b c r f a = record { value = a.value; stand = stand-more c f a.stand; is = a.is }

all_at-map : (f : ℕ → ℕ) (v : Value) (ts : List Term) → ((n : ℕ) → In (Number n) ts → f n ≡ n) → all_at (λ x. f (v x)) ts ≡ map f (all_at v ts)
unfolding all_at
all_at-map f v [] k = refl
all_at-map f v (Number n ∷ ts) k = ap₂ {C = Row} (λ a r. a ∷ r) (sym (k n In.here)) (all_at-map f v ts (λ m i. k m (In.there i)))
all_at-map f v (Variable x ∷ ts) k = ap {B = Row} (λ r. f (v x) ∷ r) (all_at-map f v ts (λ m i. k m (In.there i)))

stand-map : (b : Base) (f : ℕ → ℕ) (v : Value) (ls : List Line) → ((l : Line) → In l ls → (n : ℕ) → In (Number n) l.cells → f n ≡ n) → Stand b v ls
    → Stand (λ t. map (map f) (b t)) (λ x. f (v x)) ls
stand-map b f v [] k Stand.none_left = Stand.none_left
stand-map b f v (l ∷ ls) k (Stand.and_line i s) =
    Stand.and_line (subst (λ (r : Row). In r (map (map f) (b l.table))) (sym (all_at-map f v l.cells (k l In.here))) (in_map (map f) i)) (stand-map b f v ls (λ m j. k m (In.there j)) s)

pub any_numbers : AnyNumbers
any_numbers q b f r keeps a =
    record { value = λ x. f (a.value x); stand = stand-map b f a.value q.lines (λ l i n j. keeps n (Names.in_line i j)) a.stand; is = all_at-map f a.value q.row (λ n i. keeps n (Names.in_row i)) ∙ ap (map f) a.is }
